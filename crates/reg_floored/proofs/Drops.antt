-- What may leave a set that has a floor.
use Rattle.std.proofs.Common.{◌≡◌, ℕ, ◌≤◌, Bool, true, false, not, ◌&&◌, ◌||◌, ◌⊎◌, inl}
use Rattle.std.proofs.Common.{inr, List, is_none, refl, sym, ap, subst, ◌∙◌, arith}
use Rattle.std.proofs.lemmas.Bool.{false≢true, lt-ltb, ltb-true}
use Rattle.std.specs.Cmp.{IsTotalOrder}
use Rattle.std.specs.FinSet.{IsAntisymmetric, contains, from_list, contains-difference, contains-from_list, same_set}
use Rattle.std.specs.List.{AllByRecursion, list_any}
use Rattle.std.specs.Ordering.{eq_by_cmp}
use Rattle.reg_records.specs.declared.record.Record.{Record}
use Rattle.reg_set.specs.Join.{LastIsGreatest, NoLastIsNoRecord}
use Rattle.reg_set.specs.LastRecords.{is_last}
use Rattle.reg_set.specs.RecordOrder.{record_cmp}
use Rattle.reg_set.specs.Records.{Records}
use Rattle.reg_set.specs.Compaction.{IsGone, deletes_below, is_gone}
use Rattle.reg_floored.specs.Compaction.{IsCompactionOf}
use Rattle.reg_floored.specs.Floored.{Floored}
use Rattle.reg_floored.specs.Floors.{compacted_to, may_leave, without}
use Rattle.reg_floored.specs.Laws.{CompactedToFloorIsCompaction, CompactingDropsWhatMayLeave, DropsLeaveCompactions}
use Rattle.reg_floored.proofs.Compactions.{compaction_from, in_set, is_last_at_own_key, is_last-last, last-is_last, lasts_in, none_is}
use Rattle.reg_floored.proofs.Sets.{all_from_any, all_from_each, at_any, both, each_from_all, first_of, second_of}

not_both : (a : Bool) → not a ≡ true → a ≡ true → ⊥
not_both true h e = false≢true h
not_both false h e = false≢true e

second_case : (a b : Bool) → (not a || b) ≡ true → a ≡ true → b ≡ true
second_case true b h e = h
second_case false b h e = absurd (false≢true e)

module _ (greatest : LastIsGreatest) (none : NoLastIsNoRecord) (total : IsTotalOrder record_cmp)
    (apart : IsAntisymmetric record_cmp) (R : Floored) (floor : ℕ) (dropped : List Record) where
  abbrev left_of : Floored
  left_of = record { records = without R.records dropped; floor = floor }

  abbrev gone_records : Records
  gone_records = from_list dropped

  -- whether one of the records may leave
  abbrev may_go : Record → Bool
  may_go r = contains R.records r && (not (is_last R.records r) || is_gone floor (without R.records dropped) r)

  contains-left : (r : Record) → contains (without R.records dropped) r ≡ (contains R.records r && not (contains gone_records r))
  contains-left r = contains-difference total R.records gone_records r

  among : (r : Record) → contains gone_records r ≡ list_any (eq_by_cmp record_cmp r) dropped
  among r = contains-from_list total dropped r

  -- a last record that may leave is gone
  gone_of : (r : Record) → is_last R.records r ≡ true → may_go r ≡ true → IsGone floor (without R.records dropped) r
  gone_of r is h =
      let facts = second_case (is_last R.records r) _ (second_of (contains R.records r) _ h) is in
      let deletes = first_of (deletes_below floor r) _ facts in
      record {
        deletes = none_is r.value (first_of (is_none r.value) _ deletes);
        is_below = ltb-true r.offset floor (second_of (is_none r.value) _ deletes);
        has_no_other = none_is _ (second_of (deletes_below floor r) _ facts);
      }

  pub compaction_of_drops : R.floor ≤ floor → may_leave floor R.records dropped ≡ true → IsCompactionOf left_of R
  compaction_of_drops rises all =
      compaction_from left_of R rises (λ r h. first_of (contains R.records r) _ (sym (contains-left r) ∙ h)) (λ key r is.
      let own = is_last_at_own_key greatest none R.records key r is in
      elim (contains gone_records r) as (λ b.
      contains gone_records r ≡ b → (contains (without R.records dropped) r ≡ true) ⊎ IsGone floor (without R.records dropped) r) [
        | false ↦ λ e. inl (contains-left r ∙ both (in_set greatest none R.records key r is) (ap not e))
        | true ↦ λ e. inr (
            gone_of r (last-is_last greatest none total apart R.records r own)
            (at_any total apart may_go r dropped all (sym (among r) ∙ e)))
      ] refl)

  -- a last record that left a compaction was gone
  may_go_of : IsCompactionOf left_of R → (r : Record) → contains R.records r ≡ true
      → list_any (eq_by_cmp record_cmp r) dropped ≡ true → may_go r ≡ true
  may_go_of c r inside there =
      both inside
      (elim (is_last R.records r) as (λ b. is_last R.records r ≡ b → (not b || is_gone floor (without R.records dropped) r) ≡ true) [
        | false ↦ λ _. refl
        | true ↦ λ e.
            elim (lasts_in left_of R c r.key r (is_last-last greatest none total apart R.records r e)) [
              | inl stays ↦ absurd (
                  not_both (contains gone_records r) (second_of (contains R.records r) _ (sym (contains-left r) ∙ stays)) (among r ∙ there))
              | inr gone ↦ both (both (ap is_none gone.deletes) (lt-ltb r.offset floor gone.is_below)) (ap is_none gone.has_no_other)
            ]
      ] refl)

  pub drops_of_compaction : AllByRecursion (λ r. contains R.records r ≡ true) dropped
      → IsCompactionOf left_of R → may_leave floor R.records dropped ≡ true
  drops_of_compaction inside c =
      all_from_any total apart may_go dropped (λ r there.
      may_go_of c r (at_any total apart (contains R.records) r dropped (all_from_each (contains R.records) dropped inside) there) there)

  pub each_is_kept : may_leave floor R.records dropped ≡ true → AllByRecursion (λ r. contains R.records r ≡ true) dropped
  each_is_kept all =
      each_from_all (contains R.records) dropped
      (all_from_any total apart (contains R.records) dropped
      (λ r there. first_of (contains R.records r) _ (at_any total apart may_go r dropped all there)))

pub drops_leave_compactions : LastIsGreatest → NoLastIsNoRecord
    → IsTotalOrder record_cmp → IsAntisymmetric record_cmp → DropsLeaveCompactions
drops_leave_compactions greatest none total apart R floor dropped rises = (
  λ h. (each_is_kept greatest none total apart R floor dropped h, compaction_of_drops greatest none total apart R floor dropped rises h),
  λ h. drops_of_compaction greatest none total apart R floor dropped h.0 h.1,
)

-- what is kept and isn't dropped is what stays
stays_alone : (k c : Bool) → (c ≡ true → k ≡ true) → (k && not (k && not c)) ≡ c
stays_alone true true f = refl
stays_alone true false f = refl
stays_alone false true f = f refl
stays_alone false false f = refl

pub compacting_drops : LastIsGreatest → NoLastIsNoRecord → IsTotalOrder record_cmp
    → IsAntisymmetric record_cmp → CompactedToFloorIsCompaction → CompactingDropsWhatMayLeave
compacting_drops greatest none total apart to_floor floor kept dropped is =
    let whole : Floored = record { records = kept; floor = 0 } in
    let c : IsCompactionOf (record { records = compacted_to floor kept; floor = floor }) whole = to_floor whole floor (omega arith) in
    let same : without kept dropped ≡ compacted_to floor kept = same_set total apart (without kept dropped) (compacted_to floor kept) (λ q.
    contains-difference total kept (from_list dropped) q
    ∙ ap (λ b. contains kept q && not b) (is q)
    ∙ stays_alone (contains kept q) (contains (compacted_to floor kept) q) (c.is_below_floor.is_part q)) in
    let inside = each_from_all (contains kept) dropped (all_from_any total apart (contains kept) dropped (λ q there.
    first_of (contains kept q) _ (sym (is q) ∙ contains-from_list total dropped q ∙ there))) in (
      drops_of_compaction greatest none total apart whole floor dropped inside (
          subst (λ s. IsCompactionOf (record { records = s; floor = floor }) whole) (sym same) c),
      same,
    )
