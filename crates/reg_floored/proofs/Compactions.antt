-- Compactions of sets with floors, from the laws of last records.
use Rattle.std.proofs.Common.{◌≡◌, ◌≤◌, ◌<◌, ℕ, min, Bool, true, false, not, ◌⊎◌, inl, inr, ⊎_elim, Option, None, Some}
use Rattle.std.proofs.Common.{IfSome, is_none, is_some, nat_le, nat_lt, refl, sym, ap, subst, ◌∙◌, unwrap_or, arith}
use Rattle.std.proofs.lemmas.Bool.{false≢true, le-leb, leb-true, lt-ltb, ltb-true}
use Rattle.std.proofs.lemmas.Bool.Decides.{leb_tells}
use Rattle.std.proofs.lemmas.Map.Keys.{le_from_is_le}
use Rattle.std.specs.Cmp.{IsTotalOrder, nat_cmp_is}
use Rattle.std.specs.FinSet.{IsAntisymmetric, contains, union}
use Rattle.std.specs.Option.{option_map_or}
use Rattle.std.specs.Ordering.{eq_by_cmp, is_le, ordering_then}
use Rattle.std.specs.declared.cmp.Ordering.{Ordering}
use Rattle.std.specs.declared.cmp.Ordering.TheVariants.{Less, Equal, Greater}
use Rattle.reg_records.specs.declared.key.Key.{Key}
use Rattle.reg_records.specs.declared.record.Record.{Record}
use Rattle.reg_set.specs.Join.{LastIsGreatest, LastRecordsOfUnion, NoLastIsNoRecord}
use Rattle.reg_set.specs.LastRecords.{is_last, last, last_records}
use Rattle.reg_set.specs.RecordOrder.{age_cmp, record_cmp, value_cmp}
use Rattle.reg_set.specs.Records.{Records}
use Rattle.reg_set.specs.Compaction.{IsGone, deletes_below}
use Rattle.reg_floored.specs.Compaction.{IsCompactionOf, standing}
use Rattle.reg_floored.specs.Floored.{Floored}
use Rattle.reg_floored.specs.Floors.{below, compacted_to, from_floor, merged, rebased}
use Rattle.reg_floored.specs.Laws.{CompactedToFloorIsCompaction, CompactionsCompose, CompactionsUnite, EachIsItsOwnCompaction}
use Rattle.reg_floored.specs.Laws.{LastOfCompaction, LastRecordsOfRebased, LaterRecordsMayJoin}
use Rattle.reg_floored.specs.Laws.{RebasingKeepsLasts, StandingOfCompaction}
use Rattle.reg_floored.proofs.Sets.{first_of, second_of, in_either, in_left, in_part, in_right}
use Rattle.reg_floored.proofs.Sets.{itself, of_part, one_set, passes_of_part, same_record}

-- what holds where there is a value
pub if_some : {X : Type 0} (o : Option X) (P : X → Type 0) → ((x : X) → o ≡ Some x → P x) → IfSome o P
if_some None P f = tt
if_some (Some x) P f = f x refl

pub of_some : {X : Type 0} (o : Option X) (P : X → Type 0) (x : X) → IfSome o P → o ≡ Some x → P x
of_some o P x p is = subst (λ q. IfSome q P) is p

pub none_is : {X : Type 0} (o : Option X) → is_none o ≡ true → o ≡ None
none_is None h = refl
none_is (Some x) h = absurd (false≢true h)

-- a compaction, from its parts
pub compaction_from : (C R : Floored) → R.floor ≤ C.floor → ((r : Record) → contains C.records r ≡ true → contains R.records r ≡ true)
    → ((key : Key) (r : Record) → last R.records key ≡ Some r → (contains C.records r ≡ true) ⊎ IsGone C.floor C.records r)
    → IsCompactionOf C R
compaction_from C R rises part lasts = record {
  floor_rises = rises;
  is_below_floor = record { is_part = part; has_lasts = λ key. if_some (last R.records key) _ (lasts key) };
}

-- and back
pub part_of : (C R : Floored) → IsCompactionOf C R → (r : Record) → contains C.records r ≡ true → contains R.records r ≡ true
part_of C R c = c.is_below_floor.is_part

pub lasts_in : (C R : Floored) → IsCompactionOf C R → (key : Key) (r : Record)
    → last R.records key ≡ Some r → (contains C.records r ≡ true) ⊎ IsGone C.floor C.records r
lasts_in C R c key r is = of_some (last R.records key) _ r (c.is_below_floor.has_lasts key) is

abbrev is_low : ℕ → Record → Bool
is_low floor r = nat_lt r.offset floor

abbrev is_high : ℕ → Record → Bool
is_high floor r = nat_le floor r.offset

-- an older record of a key stands no later in the topic
first_le : (a b : Ordering) → is_le (ordering_then a b) ≡ true → is_le a ≡ true
first_le Less b h = refl
first_le Equal b h = refl
first_le Greater b h = absurd (false≢true h)

offset_le : (q r : Record) → is_le (age_cmp q r) ≡ true → q.offset ≤ r.offset
unfolding age_cmp
offset_le q r h = le_from_is_le q.offset r.offset (first_le _ (value_cmp q.value r.value) h)

le_of_offset : (q r : Record) → q.offset < r.offset → is_le (age_cmp q r) ≡ true
unfolding age_cmp
le_of_offset q r h = ap (λ o. is_le (ordering_then o (value_cmp q.value r.value))) (sym (nat_cmp_is q.offset r.offset Less h))

module _ (greatest : LastIsGreatest) (none : NoLastIsNoRecord) where
  pub in_set : (R : Records) (key : Key) (r : Record) → last R key ≡ Some r → contains R r ≡ true
  in_set R key r is = ((greatest R key r).0 is).is_in_set

  pub key_is : (R : Records) (key : Key) (r : Record) → last R key ≡ Some r → r.key ≡ key
  key_is R key r is = ((greatest R key r).0 is).is_of_key

  pub is_last_at_own_key : (R : Records) (key : Key) (r : Record) → last R key ≡ Some r → last R r.key ≡ Some r
  is_last_at_own_key R key r is = ap (last R) (key_is R key r is) ∙ is

  -- the offsets of a key rise to that of its last record
  offset_upto : (R : Records) (key : Key) (r q : Record) → last R key ≡ Some r → contains R q ≡ true → q.key ≡ key → q.offset ≤ r.offset
  offset_upto R key r q is inside same = offset_le q r (((greatest R key r).0 is).is_greatest q inside same)

  no_record : (R : Records) (key : Key) → last R key ≡ None → (q : Record) → contains R q ≡ true → q.key ≡ key → ⊥
  no_record R key gone q inside same = none R q inside (ap (last R) same ∙ gone)

  last_absent : (R : Records) (key : Key) → ((q : Record) → contains R q ≡ true → q.key ≡ key → ⊥) → last R key ≡ None
  last_absent R key nothing =
      elim (last R key) as (λ o. last R key ≡ o → o ≡ None) [
        | None ↦ λ _. refl
        | Some q ↦ λ is. absurd (nothing q (in_set R key q is) (key_is R key q is))
      ] refl

  -- a last record that a part has is the part's last one
  last_of_part : (C R : Records) → ((r : Record) → contains C r ≡ true → contains R r ≡ true)
      → (key : Key) (r : Record) → last R key ≡ Some r → contains C r ≡ true → last C key ≡ Some r
  last_of_part C R part key r is has =
      let g = (greatest R key r).0 is in
      (greatest C key r).1 (
      record { is_in_set = has; is_of_key = g.is_of_key; is_greatest = λ q in_c of_key. g.is_greatest q (part q in_c) of_key })

  -- a key without records has none in a part
  none_of_part : (C R : Records) → ((r : Record) → contains C r ≡ true → contains R r ≡ true)
      → (key : Key) → last R key ≡ None → last C key ≡ None
  none_of_part C R part key gone = last_absent C key (λ q inside same. no_record R key gone q (part q inside) same)

  pub itself_is : EachIsItsOwnCompaction
  itself_is R = compaction_from R R (omega arith) (λ r h. h) (λ key r is. inl (in_set R.records key r is))

  pub compose : CompactionsCompose
  compose B C R b c =
      let p = b.floor_rises in
      let q = c.floor_rises in
      compaction_from B R (omega arith) (λ r h. part_of C R c r (part_of B C b r h)) (λ key r is.
      elim (lasts_in C R c key r is) [
        | inl has ↦ lasts_in B C b key r (last_of_part C.records R.records (part_of C R c) key r is has)
        | inr gone ↦ inr (record {
          deletes = gone.deletes;
          is_below = let low = gone.is_below in omega arith;
          has_no_other = none_of_part B.records C.records (part_of B C b) r.key gone.has_no_other;
        })
      ])

  pub last_of_compaction : LastOfCompaction
  last_of_compaction C R c key =
      elim (last R.records key) as (λ o.
      last R.records key ≡ o → (last C.records key ≡ o) ⊎ ((last C.records key ≡ None) × IfSome o (λ r. r.value ≡ None))) [
        | None ↦ λ is. inl (none_of_part C.records R.records (part_of C R c) key is)
        | Some r ↦ λ is. elim (lasts_in C R c key r is) [
          | inl has ↦ inl (last_of_part C.records R.records (part_of C R c) key r is has)
          | inr gone ↦ inr (ap (last C.records) (sym (key_is R.records key r is)) ∙ gone.has_no_other, gone.deletes)
        ]
      ] refl

  -- a record that a part of a set has, or has lost below the floor, where the set has no other of its key below the floor than the part
  joined : (floor : ℕ) (C U : Records) (r : Record) → ((q : Record) → contains C q ≡ true → contains U q ≡ true)
      → ((q : Record) → contains U q ≡ true → q.offset < floor → contains C q ≡ true)
      → ((q : Record) → contains U q ≡ true → q.key ≡ r.key → q.offset ≤ r.offset)
      → (contains C r ≡ true) ⊎ IsGone floor C r → (contains U r ≡ true) ⊎ IsGone floor U r
  joined floor C U r part back upto (inl has) = inl (part r has)
  joined floor C U r part back upto (inr gone) =
      inr (record {
        deletes = gone.deletes;
        is_below = gone.is_below;
        has_no_other = last_absent U r.key (λ q inside same.
            let p = gone.is_below in
            let o = upto q inside same in
            let low : q.offset < floor = omega arith in
            no_record C r.key gone.has_no_other q (back q inside low) same);
      })

  module _ (total : IsTotalOrder record_cmp) (apart : IsAntisymmetric record_cmp) where
    pub is_last-last : (s : Records) (r : Record) → is_last s r ≡ true → last s r.key ≡ Some r
    unfolding is_last
    is_last-last s r h =
        elim (last s r.key) as (λ o. option_map_or (eq_by_cmp record_cmp r) o false ≡ true → o ≡ Some r) [
          | None ↦ λ h. absurd (false≢true h)
          | Some q ↦ λ h. ap Some (sym (same_record total apart r q h))
        ] h

    pub last-is_last : (s : Records) (r : Record) → last s r.key ≡ Some r → is_last s r ≡ true
    unfolding is_last
    last-is_last s r e = ap (λ o. option_map_or (eq_by_cmp record_cmp r) o false) e ∙ itself total apart r

    last_records-last : (s : Records) (r : Record) → contains (last_records s) r ≡ true → last s r.key ≡ Some r
    unfolding last_records
    last_records-last s r h = is_last-last s r (passes_of_part total apart s (is_last s) r h)

    last-last_records : (s : Records) (r : Record) → last s r.key ≡ Some r → contains (last_records s) r ≡ true
    unfolding last_records
    last-last_records s r is = in_part total apart s (is_last s) r (in_set s r.key r is) (last-is_last s r is)

    -- the last records with a value, each of which stands in the other set
    stands_in : (C R : Records) → ((key : Key) (r : Record) → last C key ≡ Some r → is_some r.value ≡ true → last R key ≡ Some r)
        → (q : Record) → contains (standing C) q ≡ true → contains (standing R) q ≡ true
    stands_in C R same q h =
        let has : is_some q.value ≡ true = passes_of_part total apart (last_records C) (λ r. is_some r.value) q h in
        let is = last_records-last C q (of_part total apart (last_records C) (λ r. is_some r.value) q h) in
        in_part total apart (last_records R) (λ r. is_some r.value) q (last-last_records R q (same q.key q is has)) has

    pub standing_of_compaction : StandingOfCompaction
    standing_of_compaction C R c =
        one_set total apart (standing C.records) (standing R.records)
        (stands_in C.records R.records (λ key r is has.
        elim (last_of_compaction C R c key) [
          | inl same ↦ sym same ∙ is
          | inr gone ↦ absurd (some≢none r (sym is ∙ gone.0))
        ]))
        (stands_in R.records C.records (λ key r is has.
        elim (last_of_compaction C R c key) [
          | inl same ↦ same ∙ is
          | inr gone ↦ absurd (false≢true (sym (ap is_some (of_some (last R.records key) _ r gone.1 is)) ∙ has))
        ]))
      where
        some≢none : (r : Record) → Some r ≡ None → ⊥
        some≢none r e = cc

    pub compacted_to_floor : CompactedToFloorIsCompaction
    compacted_to_floor R floor rises =
        let stays : Record → Bool = λ r. not (deletes_below floor r) in
        let lasts = last_records R.records in
        let left = compacted_to floor R.records in
        compaction_from (record { records = left; floor = floor }) R rises
        (λ r h. in_set R.records r.key r (last_records-last R.records r (of_part total apart lasts stays r h)))
        (λ key r is.
        let own = is_last_at_own_key R.records key r is in
        elim (deletes_below floor r) as (λ b. deletes_below floor r ≡ b → (contains left r ≡ true) ⊎ IsGone floor left r) [
          | false ↦ λ e. inl (in_part total apart lasts stays r (last-last_records R.records r own) (ap not e))
          | true ↦ λ e. inr (record {
            deletes = none_is r.value (first_of (is_none r.value) _ e);
            is_below = ltb-true r.offset floor (second_of (is_none r.value) _ e);
            has_no_other = last_absent left r.key (λ q inside same.
                let last_q = last_records-last R.records q (of_part total apart lasts stays q inside) in
                let one : q ≡ r = ap (λ o. unwrap_or o r) (sym last_q ∙ ap (last R.records) same ∙ own) in
                false≢true (ap not (sym (ap (deletes_below floor) one ∙ e)) ∙ passes_of_part total apart lasts stays q inside));
          })
        ] refl)

    pub compactions_unite : CompactionsUnite
    compactions_unite C R D S one_floor same c d =
        let both = union C.records D.records in
        let whole = union R.records S.records in
        let part : (r : Record) → contains both r ≡ true → contains whole r ≡ true =
        λ r h.
        ⊎_elim (λ k. in_left total apart R.records S.records r (part_of C R c r k))
        (λ k. in_right total apart R.records S.records r (part_of D S d r k)) (in_either total apart C.records D.records r h) in
        let p = c.floor_rises in
        compaction_from (merged C D) (record { records = whole; floor = min R.floor S.floor }) (omega arith) part (λ key r is.
        let own = is_last_at_own_key whole key r is in
        let upto : (q : Record) → contains both q ≡ true → q.key ≡ r.key → q.offset ≤ r.offset =
        λ q inside of_key. offset_upto whole r.key r q own (part q inside) of_key in
        ⊎_elim
        (λ k. joined C.floor C.records both r (in_left total apart C.records D.records)
        (λ q inside low.
        ⊎_elim (λ h. h) (λ h. moved D.records C.records (sym same) q h low) (in_either total apart C.records D.records q inside))
        upto
        (lasts_in C R c key r (last_of_part R.records whole (in_left total apart R.records S.records) key r is k)))
        (λ k. joined C.floor D.records both r (in_right total apart C.records D.records)
        (λ q inside low. ⊎_elim (λ h. moved C.records D.records same q h low) (λ h. h) (in_either total apart C.records D.records q inside))
        upto
        (subst (λ f. (contains D.records r ≡ true) ⊎ IsGone f D.records r) (sym one_floor)
        (lasts_in D S d key r (last_of_part S.records whole (in_right total apart R.records S.records) key r is k))))
        (in_either total apart R.records S.records r (in_set whole key r is)))
      where
        moved : (X Y : Records) → below C.floor X ≡ below C.floor Y → (q : Record)
            → contains X q ≡ true → q.offset < C.floor → contains Y q ≡ true
        moved X Y e q inside low =
            of_part total apart Y (is_low C.floor) q
            (ap (λ s. contains s q) (sym e) ∙ in_part total apart X (is_low C.floor) q inside (lt-ltb q.offset C.floor low))

    pub later_records_may_join : LaterRecordsMayJoin
    later_records_may_join C R more late c =
        let both = union C.records more in
        let whole = union R.records more in
        let part : (r : Record) → contains both r ≡ true → contains whole r ≡ true =
        λ r h.
        ⊎_elim (λ k. in_left total apart R.records more r (part_of C R c r k))
        (in_right total apart R.records more r) (in_either total apart C.records more r h) in
        compaction_from (record C { records = both }) (record R { records = whole }) c.floor_rises part (λ key r is.
        let own = is_last_at_own_key whole key r is in
        ⊎_elim
        (λ k. joined C.floor C.records both r (in_left total apart C.records more)
        (λ q inside low. ⊎_elim (λ h. h) (λ h. let from = late q h in absurd (omega arith)) (in_either total apart C.records more q inside))
        (λ q inside of_key. offset_upto whole r.key r q own (part q inside) of_key)
        (lasts_in C R c key r (last_of_part R.records whole (in_left total apart R.records more) key r is k)))
        (λ k. inl (in_right total apart C.records more r k))
        (in_either total apart R.records more r (in_set whole key r is)))

    pub rebasing_keeps_lasts : RebasingKeepsLasts
    rebasing_keeps_lasts C R other kept =
        let own : Records → Records = from_floor other.floor in
        let others = below other.floor other.records in
        let high = is_high other.floor in
        record {
          is_part = λ r h. ⊎_elim
              (λ k.
              in_left total apart (own R) others r (
              in_part total apart R high r (kept.is_part r (of_part total apart C high r k)) (passes_of_part total apart C high r k)))
              (in_right total apart (own R) others r)
              (in_either total apart (own C) others r h);
          has_lasts = λ key. if_some (last (rebased R other) key) _ (λ r is.
              ⊎_elim
              (λ k. in_left total apart (own C) others r
              (in_part total apart C high r (of_some (last R key) _ r (kept.has_lasts key) (last_above r key is k))
              (passes_of_part total apart R high r k)))
              (in_right total apart (own C) others r)
              (in_either total apart (own R) others r (in_set (rebased R other) key r is)));
        }
      where
        -- the last one of a rebased set is the own last one where it is an own one
        last_above : (r : Record) (key : Key) → last (rebased R other) key ≡ Some r
            → contains (from_floor other.floor R) r ≡ true → last R key ≡ Some r
        last_above r key is k =
            let g = (greatest (rebased R other) key r).0 is in
            let at_floor : other.floor ≤ r.offset =
            leb-true other.floor r.offset (passes_of_part total apart R (is_high other.floor) r k) in
            (greatest R key r).1 (record {
              is_in_set = of_part total apart R (is_high other.floor) r k;
              is_of_key = g.is_of_key;
              is_greatest = λ q inside same.
                  elim (leb_tells other.floor q.offset) [
                    | inl high ↦ g.is_greatest q (
                        in_left total apart (from_floor other.floor R) (below other.floor other.records) q
                        (in_part total apart R (is_high other.floor) q inside high.0)) same
                    | inr low ↦ le_of_offset q r (let h = low.1 in omega arith)
                  ];
            })

    -- the last records from a floor on are those of the records from there on
    lasts_from : (f : ℕ) (own : Records) → from_floor f (last_records own) ≡ last_records (from_floor f own)
    lasts_from f own =
        one_set total apart (from_floor f (last_records own)) (last_records (from_floor f own))
        (λ q h.
        let is = last_records-last own q (of_part total apart (last_records own) (is_high f) q h) in
        let here =
        in_part total apart own (is_high f) q (in_set own q.key q is) (passes_of_part total apart (last_records own) (is_high f) q h) in
        last-last_records (from_floor f own) q (last_of_part (from_floor f own) own (of_part total apart own (is_high f)) q.key q is here))
        (λ q h.
        let is = last_records-last (from_floor f own) q h in
        let inside = in_set (from_floor f own) q.key q is in
        let high = passes_of_part total apart own (is_high f) q inside in
        in_part total apart (last_records own) (is_high f) q (was_last q is inside high) high)
      where
        was_last : (q : Record) → last (from_floor f own) q.key ≡ Some q
            → contains (from_floor f own) q ≡ true → is_high f q ≡ true → contains (last_records own) q ≡ true
        was_last q is inside high =
            elim (last own q.key) as (λ o. last own q.key ≡ o → contains (last_records own) q ≡ true) [
              | None ↦ λ e. absurd (no_record own q.key e q (of_part total apart own (is_high f) q inside) refl)
              | Some r ↦ λ e.
                  let later : q.offset ≤ r.offset = offset_upto own q.key r q e (of_part total apart own (is_high f) q inside) refl in
                  let from : f ≤ q.offset = leb-true f q.offset high in
                  let own_key = is_last_at_own_key own q.key r e in
                  let same_key : r.key ≡ q.key = key_is own q.key r e in
                  let there = in_part total apart own (is_high f) r (in_set own q.key r e) (le-leb f r.offset (omega arith)) in
                  let again : last (from_floor f own) q.key ≡ Some r =
                  last_of_part (from_floor f own) own (of_part total apart own (is_high f)) q.key r e there in
                  let one : q ≡ r = ap (λ o. unwrap_or o q) (sym is ∙ again) in
                  subst (λ x. contains (last_records own) x ≡ true) (sym one) (last-last_records own r own_key)
            ] refl

    pub last_records_of_rebased : LastRecordsOfUnion → LastRecordsOfRebased
    last_records_of_rebased unite own other =
        let others = below other.floor other.records in
        ap (λ s. last_records (union s others)) (lasts_from other.floor own) ∙ unite (from_floor other.floor own) others
