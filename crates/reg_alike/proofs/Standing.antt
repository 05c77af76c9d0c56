-- The last records that have a value: of a key they have the last record, unless that one has no value.
use Rattle.std.proofs.Common.{◌≡◌, ℕ, true, false, ◌&&◌, List, Option, Some, None, is_some, refl, sym, ap, ◌∙◌}
use Rattle.std.proofs.lemmas.Bool.{false≢true}
use Rattle.std.specs.Cmp.{IsTotalOrder}
use Rattle.std.specs.FinSet.{IsAntisymmetric, contains}
use Rattle.std.specs.Option.{option_map_or}
use Rattle.std.specs.Ordering.{eq_by_cmp}
use Rattle.reg_leader.specs.reg_records.declared.key.Key.{Key}
use Rattle.reg_leader.specs.reg_records.declared.record.Record.{Record}
use Rattle.reg_leader.specs.reg_set.Join.{LastIsGreatest, LastOfLastRecords}
use Rattle.reg_leader.specs.reg_set.LastRecords.{is_last, last, last_records}
use Rattle.reg_leader.specs.reg_set.RecordOrder.{record_cmp}
use Rattle.reg_leader.specs.reg_set.Records.{Records}
use Rattle.reg_floored.specs.Compaction.{standing}
use Rattle.reg_alike.proofs.Retained.{both, equal, first_true, in_retain, second_true}

-- what is known of the order of records, and of last ones
pub record AreOrdered : Type 0 where
  pub total : IsTotalOrder record_cmp
  pub ties : IsAntisymmetric record_cmp
  pub greatest : LastIsGreatest
  pub lasts : LastOfLastRecords

module _ (order : AreOrdered) (whole : Records) where
  open order use {total, ties, greatest, lasts}

  -- a last record is the last of its key
  last_of_itself : (r : Record) → contains (last_records whole) r ≡ true → last (last_records whole) r.key ≡ Some r
  unfolding last_records is_last
  last_of_itself r inside =
      let is : is_last whole r ≡ true = second_true (contains whole r) _ (sym (in_retain total ties whole (is_last whole) r) ∙ inside) in
      lasts whole r.key
      ∙ elim (last whole r.key) as (λ o. option_map_or (eq_by_cmp record_cmp r) o false ≡ true → o ≡ Some r) [
        | None ↦ λ h. absurd (false≢true h)
        | Some q ↦ λ h. ap Some (sym (ties r q (equal _ h)))
      ] is

  stands : (r : Record) → contains (standing whole) r ≡ (contains (last_records whole) r && is_some r.value)
  stands r = in_retain total ties (last_records whole) (λ q. is_some q.value) r

  -- one that stands is the last of its key
  last_of_standing : (key : Key) (r : Record) → last (standing whole) key ≡ Some r
      → (last (last_records whole) key ≡ Some r) × (is_some r.value ≡ true)
  last_of_standing key r is =
      let g = (greatest (standing whole) key r).0 is in
      let inside = sym (stands r) ∙ g.is_in_set in (
        ap (last (last_records whole)) (sym g.is_of_key) ∙ last_of_itself r (first_true _ _ inside),
        second_true (contains (last_records whole) r) _ inside,
      )

  -- and a last one that has a value stands
  standing_last : (key : Key) (r : Record) → last (last_records whole) key ≡ Some r → is_some r.value ≡ true
      → last (standing whole) key ≡ Some r
  standing_last key r is has =
      let g = (greatest (last_records whole) key r).0 is in
      (greatest (standing whole) key r).1 (record {
        is_in_set = stands r ∙ both g.is_in_set has;
        is_of_key = g.is_of_key;
        is_greatest = λ q inside. g.is_greatest q (first_true _ _ (sym (stands q) ∙ inside));
      })

  -- so what a last record without a value gives as much as none, those that stand give
  pub given_by_standing : {X : Type 0} (gives : Option Record → X) → ((r : Record) → r.value ≡ None → gives (Some r) ≡ gives None)
      → (key : Key) → gives (last (last_records whole) key) ≡ gives (last (standing whole) key)
  given_by_standing gives as_none key =
      elim (last (standing whole) key) as (λ o. last (standing whole) key ≡ o → gives (last (last_records whole) key) ≡ gives o) [
        | Some r ↦ λ e. ap gives (last_of_standing key r e).0
        | None ↦ λ e. elim (last (last_records whole) key) as (λ o. last (last_records whole) key ≡ o → gives o ≡ gives None) [
          | None ↦ λ _. refl
          | Some r ↦ λ is. as_none r (no_value r.value (λ has. none_some r (sym e ∙ standing_last key r is has)))
        ] refl
      ] refl
    where
      none_some : (r : Record) → None ≡ Some r → ⊥
      none_some r h = cc

      no_value : (o : Option (List ℕ)) → (is_some o ≡ true → ⊥) → o ≡ None
      no_value None h = refl
      no_value (Some text) h = absurd (h refl)
