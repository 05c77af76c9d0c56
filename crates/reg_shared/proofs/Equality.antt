-- What `==` and clones say of records.
use Rattle.std.proofs.Common.{◌≡◌, Bool, true, false, List, ◌++◌, refl, sym, ap, ◌∙◌, rules}
use Rattle.std.proofs.lemmas.Cmp.{tied_itself}
use Rattle.std.proofs.lemmas.List.Elements.{same_from_all_zip}
use Rattle.std.specs.Cmp.{Equal-is, IsTotalOrder}
use Rattle.std.specs.FinSet.{IsAntisymmetric}
use Rattle.std.specs.List.{AppendsClones}
use Rattle.std.specs.Ordering.{eq_by_cmp, is_eq}
use Rattle.reg_records.specs.contracts.record.RecordClone.TheImpl as record_clone
use Rattle.reg_records.specs.contracts.record.RecordPartialEq.TheImpl as records
use Rattle.reg_records.specs.declared.record.Record.{Record}
use Rattle.reg_set.specs.RecordOrder.{record_cmp}

eq-true : (q r : Record) → (records.ghosts).eq q r ≡ true → q ≡ r
eq-true q r e = search rules

eq-itself : (q r : Record) → q ≡ r → (records.ghosts).eq q r ≡ true
eq-itself q r e = search rules

record_copy : (a b : Record) → (record_clone.ghosts).is_clone a b → b ≡ a
record_copy a b h = search rules

pub appended : (old new more : List Record) → AppendsClones (record_clone.ghosts).is_clone old new more → new ≡ old ++ more
appended old new more h = h.1 ∙ ap (λ ys. old ++ ys) (same_from_all_zip (record_clone.ghosts).is_clone more h.0 h.2 record_copy)

-- answers that are true together are equal
pub alike : (a b : Bool) → (a ≡ true → b ≡ true) → (b ≡ true → a ≡ true) → a ≡ b
alike true b to from = sym (to refl)
alike false true to from = from refl
alike false false to from = refl

module _ (order : IsTotalOrder record_cmp) (apart : IsAntisymmetric record_cmp) where
  pub equal : (r d : Record) → eq_by_cmp record_cmp r d ≡ true → r ≡ d
  equal r d h = apart r d ((Equal-is (record_cmp r d)).0 h)

  -- it tells apart what the order does
  pub eq-by_cmp : (q r : Record) → (records.ghosts).eq q r ≡ eq_by_cmp record_cmp r q
  eq-by_cmp q r =
      alike _ _ (λ e. ap (λ x. eq_by_cmp record_cmp r x) (eq-true q r e) ∙ ap is_eq (tied_itself order r))
      (λ e. eq-itself q r (sym (equal r q e)))
