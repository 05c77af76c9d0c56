-- What a node took is a compaction of the topic's log.
use Rattle.std.proofs.Common.{◌≡◌, ◌≢◌, ◌⊎◌, inl, inr, ℕ, max, ◌<◌, ◌≤◌, Bool, true, false, ◌&&◌, ◌||◌, List, [], ◌∷◌}
use Rattle.std.proofs.Common.{◌++◌, Option, Some, None, IfSome, fold, length, refl, sym, ap, subst, ◌∙◌, arith}
use Rattle.std.specs.Bool.{nat_le, nat_lt}
use Rattle.std.proofs.lemmas.Bool.{false≢true, le-leb, leb-true, lt-ltb, ltb-true}
use Rattle.std.proofs.lemmas.Bool.Decides.{leb_tells}
use Rattle.std.proofs.lemmas.List.Sums.{fold-append}
use Rattle.std.specs.Cmp.{IsTotalOrder}
use Rattle.std.specs.FinSet.{contains, empty, from_list, insert, contains-empty, contains-from_list}
use Rattle.std.specs.FinSet.{contains-insert, contains-retain, contains-union, IsAntisymmetric, same_set}
use Rattle.std.specs.List.{AllByRecursion, list_all, list_any}
use Rattle.std.proofs.lemmas.Map.Keys.{le_from_is_le}
use Rattle.std.specs.Ordering.{eq_by_cmp, is_le, ordering_then}
use Rattle.std.specs.declared.cmp.Ordering.{Ordering}
use Rattle.std.specs.declared.cmp.Ordering.TheVariants.{Less, Equal, Greater}
use mathlib.Core.List.{IsPrefix}
use Rattle.reg_records.specs.declared.key.Key.{Key}
use Rattle.reg_records.specs.declared.record.Record.{Record}
use Rattle.reg_set.specs.Compaction.{IsGone}
use Rattle.reg_set.specs.Join.{LastIsGreatest, NoLastIsNoRecord}
use Rattle.reg_set.specs.LastRecords.{IsGreatestOf, last}
use Rattle.reg_set.specs.RecordOrder.{age_cmp, record_cmp, value_cmp}
use Rattle.reg_set.specs.Records.{Records}
use Rattle.reg_floored.specs.Compaction.{IsCompactionOf}
use Rattle.reg_floored.specs.Floored.{Floored}
use Rattle.reg_floored.specs.Floors.{below, from_floor, rebased}
use Rattle.reg_floored.specs.Laws.{EachIsItsOwnCompaction}
use Rattle.reg_topic.specs.Laws.{FloorsRise, FloorsStayBelow, KeptStaysCompaction, LogsGrow}
use Rattle.reg_topic.specs.Topic.{after_item, after_items, whole_log}
use Rattle.reg_topic.specs.declared.published.Item.{Item}
use Rattle.reg_topic.specs.declared.topic.Topic.{Topic}
use Rattle.reg_shared.specs.Held.{Held, IsBelow, IsSince, base_of, topic_at}
use Rattle.reg_shared.specs.Laws.{LaterRecordsAreNews, OffsetsRise}
use Rattle.reg_node.specs.Caught.{CaughtStays, IsCaught, IsCaughtUp, NewsCatchUp}
use Rattle.reg_node.specs.Takes.{AreDrawn, AreDrawnFrom, IsBasis, base_in, draws_of, floor_of, floor_with, taken, takes_of, with_draw}
use Rattle.reg_node.specs.declared.take.Draw.{Draw}
use Rattle.reg_node.specs.declared.take.Draw.TheVariants as draws
use Rattle.reg_node.proofs.Drawn.{drawn_longer, drawn_more, drawn_takes, last_front}
use Rattle.reg_node.proofs.Members.{both, both_true, each_of, equal, in_all, none_in, or_left, or_right}
use Rattle.reg_node.proofs.Prefixes.{prefix_self}

pub either : (a b : Bool) → (a || b) ≡ true → (a ≡ true) ⊎ (b ≡ true)
either true b h = inl refl
either false b h = inr h

or_none : (a b : Bool) → b ≡ false → a ≡ (a || b)
or_none true b e = refl
or_none false b e = sym e

or_moves : (e a x : Bool) → ((e || a) || x) ≡ (a || (e || x))
or_moves true true x = refl
or_moves true false x = refl
or_moves false a x = refl

one_of : {A B C : Type 0} → (A → C) → (B → C) → A ⊎ B → C
one_of f g (inl a) = f a
one_of f g (inr b) = g b

pub each_some : {A : Type 0} {P : A → Type 0} (o : Option A) → ((a : A) → o ≡ Some a → P a) → IfSome o P
each_some (Some a) f = f a refl
each_some None f = tt

pub some_is : {A : Type 0} (P : A → Type 0) (o : Option A) (a : A) → o ≡ Some a → IfSome o P → P a
some_is P o a e h = subst (λ x. IfSome x P) e h

-- an older record of a key stands no later in the topic
first_le : (a b : Ordering) → is_le (ordering_then a b) ≡ true → is_le a ≡ true
first_le Less b h = refl
first_le Equal b h = refl
first_le Greater b h = absurd (false≢true h)

pub offset_le : (q r : Record) → is_le (age_cmp q r) ≡ true → q.offset ≤ r.offset
unfolding age_cmp
offset_le q r h = le_from_is_le q.offset r.offset (first_le _ (value_cmp q.value r.value) h)

-- a node begins with no draw
pub caught_none : (first : Held) (front : List Item) → IsCaught first front [] 0
caught_none first front = record {
  drawn = (front, refl);
  reached = omega arith;
  low = omega arith;
  not_ahead = omega arith;
  below = λ r h. absurd (false≢true (sym (contains-empty record_cmp r) ∙ h));
  lasts = λ key r is low. absurd (omega arith);
}

-- a list that goes on
goes_on : (first : Held) (f g : List Item) (p : IsPrefix f g) → topic_at first g ≡ after_items (topic_at first f) p.0
goes_on first f g p = ap (topic_at first) (sym p.1) ∙ fold-append after_item (base_of first) f p.0

module _ (grows : LogsGrow) where
  log_grows : (t : Topic) (is : List Item) (r : Record) → contains t.log r ≡ true → contains (after_items t is).log r ≡ true
  log_grows t [] r h = h
  log_grows t (i ∷ is) r h = log_grows (after_item t i) is r (grows t i r h)

  log_of_front : (first : Held) (f g : List Item) → IsPrefix f g → (r : Record)
      → contains (topic_at first f).log r ≡ true → contains (topic_at first g).log r ≡ true
  log_of_front first f g p r h = ap (λ (t : Topic). contains t.log r) (goes_on first f g p) ∙ log_grows (topic_at first f) p.0 r h

  pub caught_stays : LastIsGreatest → LaterRecordsAreNews → OffsetsRise → FloorsRise → CaughtStays
  caught_stays greatest news rise floors first f g ds upto p c =
      let same : topic_at first g ≡ after_items (topic_at first f) p.0 = goes_on first f g p in
      let next : (topic_at first g).next ≡ (after_items (topic_at first f) p.0).next = ap (λ (t : Topic). t.next) same in
      let floor : (topic_at first g).kept.floor ≡ (after_items (topic_at first f) p.0).kept.floor = ap (λ (t : Topic). t.kept.floor) same in
      record {
        drawn = drawn_longer first empty 0 [] f g ds c.drawn p;
        reached = omega (arith, c.reached, rise (topic_at first f) p.0, next);
        low = c.low;
        not_ahead = omega (arith, c.not_ahead, floors (topic_at first f) p.0, floor);
        below = c.below;
        lasts = λ key r is low.
            let top : IsGreatestOf (topic_at first g).log key r = (greatest (topic_at first g).log key r).0 is in
            let within : contains (after_items (topic_at first f) p.0).log r ≡ true =
            sym (ap (λ (t : Topic). contains t.log r) same) ∙ top.is_in_set in
            let old : contains (topic_at first f).log r ≡ true =
            one_of (λ h. h) (λ high. absurd (omega (arith, c.reached, low, high))) (news (topic_at first f) p.0 r within) in
            let still : last (topic_at first f).log key ≡ Some r = (greatest (topic_at first f).log key r).1 (record {
              is_in_set = old;
              is_of_key = top.is_of_key;
              is_greatest = λ q h k. top.is_greatest q (log_of_front first f g p q h) k;
            }) in
            c.lasts key r still low;
      }

module _ (order : IsTotalOrder record_cmp) (apart : IsAntisymmetric record_cmp) where
  in_takes : (s : Records) (read : ℕ) (records : List Record) (r : Record)
      → contains (fold with_draw s (takes_of read records)) r ≡ (contains s r || contains (from_list {R = record_cmp} records) r)
  in_takes s read [] r = or_none (contains s r) _ (contains-from_list order [] r)
  in_takes s read (d ∷ ds) r =
      in_takes (insert s d) read ds r
      ∙ ap (λ b. b || contains (from_list {R = record_cmp} ds) r) (contains-insert order s d r)
      ∙ or_moves (eq_by_cmp record_cmp r d) (contains s r) (contains (from_list {R = record_cmp} ds) r)
      ∙ ap (λ b. contains s r || (eq_by_cmp record_cmp r d || b)) (contains-from_list order ds r)
      ∙ ap (λ b. contains s r || b) (sym (contains-from_list order (d ∷ ds) r))

  floor_of_takes : (floor read : ℕ) (records : List Record) → fold floor_with floor (takes_of read records) ≡ floor
  floor_of_takes floor read [] = refl
  floor_of_takes floor read (r ∷ rs) = floor_of_takes floor read rs

  in_from : (f : ℕ) (s : Records) (r : Record) → contains (from_floor f s) r ≡ (contains s r && nat_le f r.offset)
  in_from f s r = contains-retain s (λ q. nat_le f q.offset) r (λ x e. ap (λ (q : Record). nat_le f q.offset) (sym (apart r x e)))

  in_below : (f : ℕ) (s : Records) (r : Record) → contains (below f s) r ≡ (contains s r && nat_lt r.offset f)
  in_below f s r = contains-retain s (λ q. nat_lt q.offset f) r (λ x e. ap (λ (q : Record). nat_lt q.offset f) (sym (apart r x e)))

  in_rebased : (s : Records) (other : Floored) (r : Record)
      → contains (rebased s other) r
      ≡ ((contains s r && nat_le other.floor r.offset) || (contains other.records r && nat_lt r.offset other.floor))
  in_rebased s other r =
      contains-union order (from_floor other.floor s) (below other.floor other.records) r
      ∙ (λ i. in_from other.floor s r i || in_below other.floor other.records r i)

  -- the records brought are those kept below the floor
  pub same_base : (s : Records) (kept : Floored) (records : List Record) (read : ℕ) → IsBelow kept.records kept.floor records
      → rebased s (base_in (record { read = read; floor = kept.floor; below = records })) ≡ rebased s kept
  same_base s kept records read is = same_set order apart _ (rebased s kept) (λ q.
      in_rebased s (base_in (record { read = read; floor = kept.floor; below = records })) q
      ∙ ap (λ b. (contains s q && nat_le kept.floor q.offset) || (b && nat_lt q.offset kept.floor)) (is q)
      ∙ ap (λ b. (contains s q && nat_le kept.floor q.offset) || b) (twice (contains kept.records q) (nat_lt q.offset kept.floor))
      ∙ sym (in_rebased s kept q))
    where
      twice : (a b : Bool) → ((a && b) && b) ≡ (a && b)
      twice true true = refl
      twice true false = refl
      twice false b = refl

  -- What the records are after a rebase, if there is one, and takes of what is kept and new: what was there, as far as the floor leaves it,
  -- what is new, and below a floor that is another one what is kept.
  pub record Adds (kept : Floored) (floor upto : ℕ) (before after : Records) : Type 0 where
    pub new : (r : Record) → contains kept.records r ≡ true → max upto kept.floor ≤ r.offset → contains after r ≡ true
    pub stays : (r : Record) → contains before r ≡ true → kept.floor ≤ r.offset → contains after r ≡ true
    pub stays_low : floor ≡ kept.floor → (r : Record) → contains before r ≡ true → contains after r ≡ true
    pub low : floor ≢ kept.floor → (r : Record) → contains kept.records r ≡ true → r.offset < kept.floor → contains after r ≡ true
    pub from : (r : Record) → contains after r ≡ true → ((contains before r ≡ true) × ((floor ≡ kept.floor) ⊎ (kept.floor ≤ r.offset)))
        ⊎ ((contains kept.records r ≡ true) × ((max upto kept.floor ≤ r.offset) ⊎ ((floor ≢ kept.floor) × (r.offset < kept.floor))))

  -- what is new is kept, from both offsets on
  new_kept : (kept : Floored) (upto : ℕ) (records : List Record) → IsSince kept.records (max upto kept.floor) records
      → (r : Record) → contains (from_list {R = record_cmp} records) r ≡ true
      → (contains kept.records r ≡ true) × (max upto kept.floor ≤ r.offset)
  new_kept kept upto records since r within =
      let parts = both_true (contains kept.records r) (nat_le (max upto kept.floor) r.offset) (sym (since r) ∙ within) in
      (parts.0, leb-true (max upto kept.floor) r.offset parts.1)

  new_in : (kept : Floored) (upto : ℕ) (records : List Record) → IsSince kept.records (max upto kept.floor) records
      → (r : Record) → contains kept.records r ≡ true → max upto kept.floor ≤ r.offset
      → contains (from_list {R = record_cmp} records) r ≡ true
  new_in kept upto records since r k high = since r ∙ both k (le-leb (max upto kept.floor) r.offset high)

  adds_takes : (kept : Floored) (floor upto read : ℕ) (before : Records) (records : List Record)
      → floor ≡ kept.floor → IsSince kept.records (max upto kept.floor) records
      → Adds kept floor upto before (fold with_draw before (takes_of read records))
  adds_takes kept floor upto read before records same since = record {
    new = λ r k high. in_takes before read records r ∙ or_right (contains before r) _ (new_in kept upto records since r k high);
    stays = λ r h high. in_takes before read records r ∙ or_left (contains before r) _ h;
    stays_low = λ e r h. in_takes before read records r ∙ or_left (contains before r) _ h;
    low = λ n r k l. absurd (n same);
    from =
        λ r h.
        elim (either (contains before r) (contains (from_list {R = record_cmp} records) r) (sym (in_takes before read records r) ∙ h)) [
          | inl old ↦ inl (old, inl same)
          | inr is ↦ let facts = new_kept kept upto records since r is in inr (facts.0, inl facts.1)
        ];
  }

  pub adds_base : (kept : Floored) (floor upto read : ℕ) (before : Records) (records : List Record)
      → floor ≢ kept.floor → IsSince kept.records (max upto kept.floor) records
      → Adds kept floor upto before (fold with_draw (rebased before kept) (takes_of read records))
  adds_base kept floor upto read before records other since =
      let here : (r : Record)
      → contains (fold with_draw (rebased before kept) (takes_of read records)) r
      ≡ (contains (rebased before kept) r || contains (from_list {R = record_cmp} records) r) =
      in_takes (rebased before kept) read records in
      let own : (r : Record) → contains before r ≡ true → kept.floor ≤ r.offset → contains (rebased before kept) r ≡ true =
      λ r h high.
      in_rebased before kept r
      ∙ or_left (contains before r && nat_le kept.floor r.offset) _ (both h (le-leb kept.floor r.offset high)) in record {
        new = λ r k high. here r ∙ or_right (contains (rebased before kept) r) _ (new_in kept upto records since r k high);
        stays = λ r h high. here r ∙ or_left (contains (rebased before kept) r) _ (own r h high);
        stays_low = λ e r h. absurd (other e);
        low = λ n r k l. here r ∙ or_left (contains (rebased before kept) r) _
            (in_rebased before kept r
            ∙ or_right (contains before r && nat_le kept.floor r.offset) _ (both k (lt-ltb r.offset kept.floor l)));
        from =
            λ r h. elim (either (contains (rebased before kept) r) (contains (from_list {R = record_cmp} records) r) (sym (here r) ∙ h)) [
              | inl old ↦ elim (
                  either (contains before r && nat_le kept.floor r.offset)
                  (contains kept.records r && nat_lt r.offset kept.floor) (sym (in_rebased before kept r) ∙ old)) [
                    | inl mine ↦
                        let parts = both_true (contains before r) (nat_le kept.floor r.offset) mine in
                        inl (parts.0, inr (leb-true kept.floor r.offset parts.1))
                    | inr its ↦
                        let parts = both_true (contains kept.records r) (nat_lt r.offset kept.floor) its in
                        inr (parts.0, inr (other, ltb-true r.offset kept.floor parts.1))
                  ]
              | inr is ↦ let facts = new_kept kept upto records since r is in inr (facts.0, inl facts.1)
            ];
      }

  module _ (grows : LogsGrow) (keeps : KeptStaysCompaction) (below_next : FloorsStayBelow)
      (itself : EachIsItsOwnCompaction) (greatest : LastIsGreatest) (none : NoLastIsNoRecord) where
    is_kept : (first : Held) (f : List Item) → first.kept.floor ≤ first.next
        → IsCompactionOf (topic_at first f).kept (whole_log (topic_at first f))
    is_kept first f low =
        keeps (base_of first) f low (record { floor_rises = omega arith; is_below_floor = (itself first.kept).is_below_floor })

    kept_of_log : (first : Held) (f : List Item) → first.kept.floor ≤ first.next → (r : Record)
        → contains (topic_at first f).kept.records r ≡ true → contains (topic_at first f).log r ≡ true
    kept_of_log first f low r h = (is_kept first f low).is_below_floor.is_part r h

    -- what was drawn is of the log
    of_log : (first : Held) (low : first.kept.floor ≤ first.next) (s : Records)
        (floor : ℕ) (from : List Item) (ds : List Draw) (g : List Item)
        → AreDrawn first s floor from ds g
        → ((r : Record) → contains s r ≡ true → contains (topic_at first g).log r ≡ true) → (r : Record)
        → contains (fold with_draw s ds) r ≡ true → contains (topic_at first g).log r ≡ true
    of_log first low s floor from [] g d had r h = had r h
    of_log first low s floor from (draws.Take t ∷ ts) g d had r h =
        of_log first low (with_draw s (draws.Take t)) floor d.0 ts g d.3 (λ q within. one_of {C = contains (topic_at first g).log q ≡ true}
        (λ new. log_of_front grows first d.0 g (last_front first (with_draw s (draws.Take t)) floor d.0 g ts d.3) q
        (kept_of_log first d.0 low q (ap (contains (topic_at first d.0).kept.records) (equal order apart q t.kept new) ∙ d.2.2)))
        (λ old. had q old)
        (either (eq_by_cmp record_cmp q t.kept) (contains s q) (sym (contains-insert order s t.kept q) ∙ within))) r h
    of_log first low s floor from (draws.Rebase b ∷ ts) g d had r h =
        of_log first low (with_draw s (draws.Rebase b)) b.floor d.0 ts g d.3
        (λ q within. one_of {C = contains (topic_at first g).log q ≡ true}
        (λ own. had q (both_true (contains s q) (nat_le (topic_at first d.0).kept.floor q.offset) own).0)
        (λ its. log_of_front grows first d.0 g (last_front first (with_draw s (draws.Rebase b)) b.floor d.0 g ts d.3) q
        (kept_of_log first d.0 low q (
        both_true (contains (topic_at first d.0).kept.records q) (nat_lt q.offset (topic_at first d.0).kept.floor) its).0))
        (either (contains s q && nat_le (topic_at first d.0).kept.floor q.offset)
        (contains (topic_at first d.0).kept.records q && nat_lt q.offset (topic_at first d.0).kept.floor)
        (sym (in_rebased s (topic_at first d.0).kept q) ∙ (sym (ap (λ x. contains x q) d.2.3) ∙ within))))
        r h

    absent : (S : Records) (key : Key) → ((q : Record) → contains S q ≡ true → q.key ≡ key → ⊥) → last S key ≡ None
    absent S key nothing = elim (last S key) as (λ o. last S key ≡ o → o ≡ None) [
      | None ↦ λ _. refl
      | Some q ↦ λ is. let top = (greatest S key q).0 is in absurd (nothing q top.is_in_set top.is_of_key)
    ] refl

    no_other : (S : Records) (key : Key) → last S key ≡ None → (q : Record) → contains S q ≡ true → q.key ≡ key → ⊥
    no_other S key gone q h same = none S q h (ap (last S) same ∙ gone)

    -- What a pull adds is enough.
    module _ (first : Held) (low : first.kept.floor ≤ first.next) (g : List Item)
        (ds : List Draw) (upto : ℕ) (c : IsCaught first g ds upto) (after : Records)
        (adds : Adds (topic_at first g).kept (floor_of ds) upto (taken ds) after)
        (equal_floors : (floor_of ds ≡ (topic_at first g).kept.floor) ⊎ (floor_of ds ≢ (topic_at first g).kept.floor)) where
      abbrev t : Topic
      t = topic_at first g

      before_of_log : (r : Record) → contains (taken ds) r ≡ true → contains t.log r ≡ true
      before_of_log = of_log first low empty 0 [] ds g c.drawn (λ q e. absurd (false≢true (sym (contains-empty record_cmp q) ∙ e)))

      part : (r : Record) → contains after r ≡ true → contains t.log r ≡ true
      part r h = elim (adds.from r h) [
        | inl old ↦ before_of_log r old.0
        | inr new ↦ kept_of_log first g low r new.0
      ]

      module _ (key : Key) (r : Record) (is : last t.log key ≡ Some r) where
        abbrev top : IsGreatestOf t.log key r
        top = (greatest t.log key r).0 is

        no_later : (q : Record) → contains t.log q ≡ true → q.key ≡ r.key → q.offset ≤ r.offset
        no_later q h same = offset_le q r (top.is_greatest q h (same ∙ top.is_of_key))

        -- where the key is gone, no record of it comes back
        gone_from : r.value ≡ None → r.offset < t.kept.floor → ((q : Record) → contains after q ≡ true → q.key ≡ r.key → ⊥)
            → (contains after r ≡ true) ⊎ IsGone t.kept.floor after r
        gone_from null is_low nothing = inr (record { deletes = null; is_below = is_low; has_no_other = absent after r.key nothing })

        of_kept : contains t.kept.records r ≡ true → (contains after r ≡ true) ⊎ IsGone t.kept.floor after r
        of_kept k = elim equal_floors [
          | inl same ↦ elim (leb_tells upto r.offset) [
            | inl high ↦ inl (adds.new r k (let h = high.1 in let l = c.low in omega (arith, same)))
            | inr under ↦ elim (c.lasts key r is under.1) [
              | inl had ↦ inl (adds.stays_low same r had)
              | inr gone ↦ gone_from gone.deletes (let b = gone.is_below in omega (arith, same)) (λ q h of_key. elim (adds.from q h) [
                | inl old ↦ no_other (taken ds) r.key gone.has_no_other q old.0 of_key
                | inr new ↦
                    let at = no_later q (kept_of_log first g low q new.0) of_key in
                    elim new.1 [
                      | inl high ↦ let u = under.1 in absurd (omega (arith, at, high))
                      | inr other ↦ other.0 same
                    ]
              ])
            ]
          ]
          | inr other ↦ elim (leb_tells t.kept.floor r.offset) [
            | inr under ↦ inl (adds.low other r k under.1)
            | inl high ↦ elim (leb_tells upto r.offset) [
              | inl new ↦ inl (adds.new r k (let h = high.1 in let n = new.1 in omega arith))
              | inr before ↦ elim (c.lasts key r is before.1) [
                | inl had ↦ inl (adds.stays r had high.1)
                | inr gone ↦ let b = gone.is_below in let a = c.not_ahead in let h = high.1 in absurd (omega arith)
              ]
            ]
          ]
        ]

        of_gone : IsGone t.kept.floor t.kept.records r → (contains after r ≡ true) ⊎ IsGone t.kept.floor after r
        of_gone k = elim equal_floors [
          | inl same ↦ elim (c.lasts key r is (let b = k.is_below in let l = c.low in omega (arith, same))) [
            | inl had ↦ inl (adds.stays_low same r had)
            | inr gone ↦ gone_from k.deletes k.is_below (λ q h of_key. elim (adds.from q h) [
              | inl old ↦ no_other (taken ds) r.key gone.has_no_other q old.0 of_key
              | inr new ↦ no_other t.kept.records r.key k.has_no_other q new.0 of_key
            ])
          ]
          | inr other ↦ gone_from k.deletes k.is_below (λ q h of_key. elim (adds.from q h) [
            | inl old ↦ elim old.1 [
              | inl same ↦ other same
              | inr high ↦ let at = no_later q (before_of_log q old.0) of_key in let b = k.is_below in absurd (omega (arith, at, high))
            ]
            | inr new ↦ no_other t.kept.records r.key k.has_no_other q new.0 of_key
          ])
        ]

        last_is : (contains after r ≡ true) ⊎ IsGone t.kept.floor after r
        last_is =
            elim (
            some_is (λ x. (contains t.kept.records x ≡ true) ⊎ IsGone t.kept.floor t.kept.records x)
            (last t.log key) r is ((is_kept first g low).is_below_floor.has_lasts key)) [
              | inl k ↦ of_kept k
              | inr k ↦ of_gone k
            ]

      caught_up : (more : List Draw) → taken (ds ++ more) ≡ after → floor_of (ds ++ more) ≡ t.kept.floor → AreDrawnFrom first (ds ++ more) g
          → ((r : Record) → contains t.kept.records r ≡ true → max upto t.kept.floor ≤ r.offset → r.offset < t.next)
          → IsCaughtUp first g (ds ++ more)
      caught_up more is_taken is_floor drawn ends =
          let kept_low : t.kept.floor ≤ t.next = below_next (base_of first) g low in
          let lasts : (key : Key) (r : Record) → last t.log key ≡ Some r
          → (contains (taken (ds ++ more)) r ≡ true) ⊎ IsGone (floor_of (ds ++ more)) (taken (ds ++ more)) r =
          λ key r is. subst (λ (f : ℕ). (contains (taken (ds ++ more)) r ≡ true) ⊎ IsGone f (taken (ds ++ more)) r) (sym is_floor)
          (subst (λ (s : Records). (contains s r ≡ true) ⊎ IsGone t.kept.floor s r) (sym is_taken) (last_is key r is)) in record {
            caught = record {
              drawn = drawn;
              reached = omega arith;
              low = omega (arith, is_floor, kept_low);
              not_ahead = omega (arith, is_floor);
              below = λ r h. elim (adds.from r (ap (λ s. contains s r) (sym is_taken) ∙ h)) [
                | inl old ↦ let b = c.below r old.0 in let reached = c.reached in omega arith
                | inr new ↦ elim new.1 [
                  | inl high ↦ ends r new.0 high
                  | inr under ↦ let u = under.1 in omega (arith, u, kept_low)
                ]
              ];
              lasts = λ key r is under. lasts key r is;
            };
            compaction = record {
              floor_rises = omega arith;
              is_below_floor = record {
                is_part = λ r h. part r (ap (λ s. contains s r) (sym is_taken) ∙ h);
                has_lasts = λ key. each_some (last t.log key) (λ r is. lasts key r is);
              };
            };
          }

    -- what is new wasn't taken before
    none_taken : (kept : Floored) (ds : List Draw) (upto : ℕ) (records : List Record)
        → ((r : Record) → contains (taken ds) r ≡ true → r.offset < upto) → IsSince kept.records (max upto kept.floor) records
        → list_any (contains (taken ds)) records ≡ false
    none_taken kept ds upto records under since = none_in order (contains (taken ds)) records (λ r within.
        let from = (new_kept kept upto records since r within).1 in
        elim (contains (taken ds) r) as (λ b. contains (taken ds) r ≡ b → b ≡ false) [
          | true ↦ λ had. let b = under r had in absurd (omega (arith, from))
          | false ↦ λ _. refl
        ] refl)

    taken_more : (ds more : List Draw) → taken (ds ++ more) ≡ fold with_draw (taken ds) more
    taken_more ds more = fold-append with_draw empty ds more

    floor_more : (ds more : List Draw) → floor_of (ds ++ more) ≡ fold floor_with (floor_of ds) more
    floor_more ds more = fold-append floor_with 0 ds more

    module _ (first : Held) (front : List Item) (ds : List Draw) (upto : ℕ) (records : List Record)
        (low : first.kept.floor ≤ first.next) (c : IsCaught first front ds upto) where
      abbrev kept_at : Floored
      kept_at = (topic_at first front).kept

      abbrev takes : List Draw
      takes = takes_of (length front) records

      all_kept : IsSince kept_at.records (max upto kept_at.floor) records → list_all (contains kept_at.records) records ≡ true
      all_kept since = in_all order (contains kept_at.records) records (λ r within. (new_kept kept_at upto records since r within).0)

      ends_at : IsSince kept_at.records (max upto kept_at.floor) records
          → AllByRecursion (λ r. r.offset < (topic_at first front).next) records
          → (r : Record) → contains kept_at.records r ≡ true → max upto kept_at.floor ≤ r.offset → r.offset < (topic_at first front).next
      ends_at since ends r k high =
          each_of order apart (λ q. q.offset < (topic_at first front).next) records r ends (new_in kept_at upto records since r k high)

      by_takes : floor_of ds ≡ kept_at.floor → IsSince kept_at.records (max upto kept_at.floor) records
          → AllByRecursion (λ r. r.offset < (topic_at first front).next) records → IsCaughtUp first front (ds ++ takes)
      by_takes same since ends =
          caught_up first low front ds upto c (fold with_draw (taken ds) takes)
          (adds_takes kept_at (floor_of ds) upto (length front) (taken ds) records same since) (inl same) takes
          (taken_more ds takes)
          (floor_more ds takes ∙ (floor_of_takes (floor_of ds) (length front) records ∙ same))
          (drawn_more first front front ds takes c.drawn (prefix_self front)
          (λ from p. drawn_takes first (taken ds) (floor_of ds) from front records p same (all_kept since)))
          (ends_at since ends)

      by_rebase : (base : List Record) → floor_of ds ≢ kept_at.floor
          → IsBelow kept_at.records kept_at.floor base → IsSince kept_at.records (max upto kept_at.floor) records
          → AllByRecursion (λ r. r.offset < (topic_at first front).next) records
          → IsCaughtUp first front (ds ++ draws.Rebase (record { read = length front; floor = kept_at.floor; below = base }) ∷ takes)
      by_rebase base other is since ends =
          let rebase : Draw = draws.Rebase (record { read = length front; floor = kept_at.floor; below = base }) in
          let same = same_base (taken ds) kept_at base (length front) is in
          caught_up first low front ds upto c (fold with_draw (rebased (taken ds) kept_at) takes)
          (adds_base kept_at (floor_of ds) upto (length front) (taken ds) records other since) (inr other) (rebase ∷ takes)
          (taken_more ds (rebase ∷ takes) ∙ ap (λ s. fold with_draw s takes) same)
          (floor_more ds (rebase ∷ takes) ∙ floor_of_takes kept_at.floor (length front) records)
          (drawn_more first front front ds (rebase ∷ takes) c.drawn (prefix_self front) (λ from p. (
            front,
            p,
            (refl, c.not_ahead, refl, same),
            drawn_takes first (with_draw (taken ds) rebase) kept_at.floor front front records (prefix_self front) refl (all_kept since),
          )))
          (ends_at since ends)

      by_basis : (below : Option (List Record)) → IsBasis kept_at (floor_of ds) below
          → IsSince kept_at.records (max upto kept_at.floor) records → AllByRecursion (λ r. r.offset < (topic_at first front).next) records
          → IsCaughtUp first front (ds ++ draws_of (length front) kept_at.floor below records)
      by_basis None same since ends = by_takes same since ends
      by_basis (Some base) is since ends = by_rebase base is.0 is.1 since ends

    pub news_catch_up : NewsCatchUp
    news_catch_up first front ds upto below records low c news = (
      by_basis first front ds upto records low c below news.basis news.since news.ends,
      none_taken (topic_at first front).kept ds upto records c.below news.since,
    )
