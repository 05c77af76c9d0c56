-- What is held of a topic follows it.
use Rattle.std.proofs.Common.{◌≡◌, ◌⊎◌, inl, inr, ℕ, suc, ◌+◌, ◌≤◌, Bool, true, false, ◌&&◌, ◌||◌, List, []}
use Rattle.std.proofs.Common.{◌∷◌, length, fold, Option, None, Some, IfSome, refl, sym, ap, ◌∙◌, arith}
use Rattle.std.specs.Bool.{nat_le}
use Rattle.std.proofs.lemmas.Bool.{false≢true, le-leb}
use Rattle.std.specs.Cmp.{IsTotalOrder}
use Rattle.std.specs.FinSet.{contains, from_list, union, IsAntisymmetric, contains-from_list, contains-union}
use Rattle.std.specs.List.{AllByRecursion, list_any}
use Rattle.std.specs.Ordering.{eq_by_cmp}
use Rattle.reg_leader.specs.Adoption.{adopting}
use Rattle.reg_leader.specs.OneStep.{goes_on}
use Rattle.reg_records.specs.declared.limits.TheConstants.{OFFSET_LIMIT}
use Rattle.reg_records.specs.declared.record.Record.{Record}
use Rattle.reg_floored.specs.Compaction.{IsCompactionOf}
use Rattle.reg_records.specs.declared.key.Key.{Key}
use Rattle.reg_set.specs.Compaction.{IsGone}
use Rattle.reg_set.specs.Join.{LastIsGreatest}
use Rattle.reg_set.specs.LastRecords.{last, last_records}
use Rattle.reg_set.specs.RecordOrder.{record_cmp}
use Rattle.reg_set.specs.Records.{Records}
use Rattle.reg_topic.specs.Topic.{after_batch, after_compaction, after_item, after_items, follows}
use Rattle.reg_topic.specs.Topic.{left_by, may_compact, plain_topic, topic_from, whole_log}
use Rattle.reg_topic.specs.declared.published.Compaction.{Compaction}
use Rattle.reg_topic.specs.declared.published.Item.{Item}
use Rattle.reg_topic.specs.declared.published.Item.TheVariants as items
use Rattle.reg_topic.specs.declared.topic.Topic.{Topic}
use Rattle.reg_floored.specs.Floored.{Floored}
use Rattle.reg_floored.specs.Floors.{may_leave}
use Rattle.reg_shared.specs.Held.{Held, base_of, held_after, held_after_batch, held_after_compaction, held_of}
use Rattle.reg_shared.specs.Laws.{FoldsAreHeld, LaterRecordsAreNews, OffsetsRise}
use Rattle.reg_shared.proofs.Equality.{equal}
use Rattle.reg_shared.proofs.Rising.{goes_on_is}

first_true : (a b : Bool) → (a && b) ≡ true → a ≡ true
first_true true b h = refl
first_true false b h = absurd (false≢true h)

pub held_batch : (b : Bool) (t : Topic) (batch : List Record) → held_after_batch b (held_of t) batch ≡ held_of (after_batch b t batch)
held_batch true t batch = refl
held_batch false t batch = refl

held_compaction : (b : Bool) (t : Topic) (c : Compaction) → held_after_compaction b (held_of t) c ≡ held_of (after_compaction b t c)
held_compaction true t c = refl
held_compaction false t c = refl

held_item : (t : Topic) (i : Item) → held_after (held_of t) i ≡ held_of (after_item t i)
held_item t (items.Commit commit) = held_batch (follows t.next commit.batch) t commit.batch
held_item t (items.Compaction c) = held_compaction (may_compact t c) t c

held_items : (t : Topic) (is : List Item) → fold held_after (held_of t) is ≡ held_of (after_items t is)
held_items t [] = refl
held_items t (i ∷ is) = ap (λ h. fold held_after h is) (held_item t i) ∙ held_items (after_item t i) is

-- where nothing was compacted away, the kept set is a compaction of the log
pub base_is_kept : LastIsGreatest → (h : Held) → IsCompactionOf (base_of h).kept (whole_log (base_of h))
base_is_kept greatest h = record {
  floor_rises = omega arith;
  is_below_floor = record {
    is_part = λ r e. e;
    has_lasts = λ key. in_own key (last h.kept.records key) refl;
  };
}
  where
    in_own : (key : Key) (o : Option Record) → last h.kept.records key ≡ o
        → IfSome o (λ r. (contains h.kept.records r ≡ true) ⊎ IsGone h.kept.floor h.kept.records r)
    in_own key None e = tt
    in_own key (Some r) e = inl ((greatest h.kept.records key r).0 e).is_in_set

pub folds_are_held : FoldsAreHeld
folds_are_held first is = held_items (base_of first) is

-- where the floor may be set, a compaction may be where its records may leave
pub may_compact_is : (h : Held) (c : Compaction) (b : Bool) → h.kept.floor ≤ c.floor
    → c.floor ≤ h.next → may_leave c.floor h.kept.records c.dropped ≡ b → may_compact (base_of h) c ≡ b
may_compact_is h c b rises ahead may =
    ap (λ x. (x && nat_le c.floor h.next) && may_leave c.floor h.kept.records c.dropped) (le-leb h.kept.floor c.floor rises)
    ∙ ap (λ x. x && may_leave c.floor h.kept.records c.dropped) (le-leb c.floor h.next ahead)
    ∙ may

-- What is stored after an item.
pub held_dropped : (h : Held) (c : Compaction) (b : Bool) (kept : Floored) → b ≡ true → kept ≡ left_by (base_of h) c
    → (record { kept = kept; next = h.next; compacted = h.next }) ≡ held_after_compaction b h c
held_dropped h c true kept e is = ap (λ (k : Floored). let g : Held = record { kept = k; next = h.next; compacted = h.next } in g) is
held_dropped h c false kept e is = absurd (false≢true e)

pub held_stays : (h : Held) (c : Compaction) (b : Bool) → b ≡ false → h ≡ held_after_compaction b h c
held_stays h c false e = refl
held_stays h c true e = absurd (false≢true (sym e))

pub held_grown : (h : Held) (batch : List Record) (b : Bool) (kept : Records) → b ≡ true → kept ≡ union h.kept.records (from_list batch)
    → (record { kept = record { records = kept; floor = h.kept.floor }; next = h.next + length batch; compacted = h.compacted })
    ≡ held_after_batch b h batch
held_grown h batch true kept e is =
    ap (λ (k : Records).
    let g : Held =
    record { kept = record { records = k; floor = h.kept.floor }; next = h.next + length batch; compacted = h.compacted } in
    g) is
held_grown h batch false kept e is = absurd (false≢true e)

-- What is held once what is due is taken in.
pub held_begun : (rs : List Record) (next floor : ℕ) (plain begun : Held) (due : List Record)
    → plain ≡ held_of (plain_topic rs next floor) → due ≡ adopting (last_records (from_list rs)) next
    → begun ≡ held_after_batch (follows plain.next due) plain due → begun ≡ held_of (topic_from rs next floor)
unfolding topic_from
held_begun rs next floor plain begun due is owes taken =
    let owed : List Record = adopting (last_records (from_list rs)) next in
    let first : Held = held_of (plain_topic rs next floor) in
    let same : held_after_batch (follows plain.next due) plain due ≡ held_after_batch (follows next owed) first owed =
    λ i. held_after_batch (follows (is i).next (owes i)) (is i) (owes i) in
    taken ∙ same ∙ held_batch (follows next owed) (plain_topic rs next floor) owed

pub goes : (next : ℕ) (batch : List Record) → follows next batch ≡ true → goes_on next batch ≡ true
goes next batch e = first_true (goes_on next batch) (nat_le (next + length batch) (suc OFFSET_LIMIT)) e

-- Next offsets.
rise_batch : (b : Bool) (t : Topic) (batch : List Record) → t.next ≤ (after_batch b t batch).next
rise_batch true t batch = omega arith
rise_batch false t batch = omega arith

rise_compaction : (b : Bool) (t : Topic) (c : Compaction) → t.next ≤ (after_compaction b t c).next
rise_compaction true t c = omega arith
rise_compaction false t c = omega arith

rise_item : (t : Topic) (i : Item) → t.next ≤ (after_item t i).next
rise_item t (items.Commit commit) = rise_batch (follows t.next commit.batch) t commit.batch
rise_item t (items.Compaction c) = rise_compaction (may_compact t c) t c

pub offsets_rise : OffsetsRise
offsets_rise t [] = omega arith
offsets_rise t (i ∷ is) = omega (arith, rise_item t i, offsets_rise (after_item t i) is)

-- Logs.
either : (a b : Bool) → (a || b) ≡ true → (a ≡ true) ⊎ (b ≡ true)
either true b h = inl refl
either false b h = inr h

module _ (order : IsTotalOrder record_cmp) (apart : IsAntisymmetric record_cmp) where
  above : (n : ℕ) (rs : List Record) → AllByRecursion (λ r. n ≤ r.offset) rs
      → (q : Record) → list_any (eq_by_cmp record_cmp q) rs ≡ true → n ≤ q.offset
  above n [] all q any = absurd (false≢true any)
  above n (r ∷ rs) all q any = elim (either (eq_by_cmp record_cmp q r) (list_any (eq_by_cmp record_cmp q) rs) any) [
    | inl e ↦ omega (arith, all.0, ap (λ (x : Record). x.offset) (equal order apart q r e))
    | inr rest ↦ above n rs all.1 q rest
  ]

  news_batch : (b : Bool) (t : Topic) (batch : List Record) (r : Record) → (b ≡ true → goes_on t.next batch ≡ true)
      → contains (after_batch b t batch).log r ≡ true → (contains t.log r ≡ true) ⊎ (t.next ≤ r.offset)
  news_batch false t batch r goes h = inl h
  news_batch true t batch r goes h =
      elim (
      either (contains t.log r) (contains (from_list {R = record_cmp} batch) r)
      (sym (contains-union order t.log (from_list batch) r) ∙ h))
      as (λ _. (contains t.log r ≡ true) ⊎ (t.next ≤ r.offset)) [
        | inl old ↦ inl old
        | inr new ↦ inr (above t.next batch (goes_on_is t.next batch (goes refl)).above r (sym (contains-from_list order batch r) ∙ new))
      ]

  news_compaction : (b : Bool) (t : Topic) (c : Compaction) (r : Record)
      → contains (after_compaction b t c).log r ≡ true → contains t.log r ≡ true
  news_compaction true t c r h = h
  news_compaction false t c r h = h

  news_item : (t : Topic) (i : Item) (r : Record) → contains (after_item t i).log r ≡ true → (contains t.log r ≡ true) ⊎ (t.next ≤ r.offset)
  news_item t (items.Commit commit) r h = news_batch (follows t.next commit.batch) t commit.batch r (goes t.next commit.batch) h
  news_item t (items.Compaction c) r h = inl (news_compaction (may_compact t c) t c r h)

  pub later_are_news : LaterRecordsAreNews
  later_are_news t [] r h = inl h
  later_are_news t (i ∷ is) r h = elim (later_are_news (after_item t i) is r h) as (λ _. (contains t.log r ≡ true) ⊎ (t.next ≤ r.offset)) [
    | inl old ↦ news_item t i r old
    | inr new ↦ inr (omega (arith, rise_item t i, new))
  ]
