-- What `==` answers at records.
use Rattle.std.proofs.Common.{◌≡◌, Bool, true, false, refl, sym, ap, ◌∙◌, rules}
use Rattle.std.proofs.lemmas.Cmp.{tied_itself}
use Rattle.std.specs.Cmp.{IsTotalOrder}
use Rattle.std.specs.FinSet.{IsAntisymmetric}
use Rattle.std.specs.Option.{option_map_or}
use Rattle.std.specs.Ordering.{eq_by_cmp, is_eq}
use Rattle.reg_records.specs.contracts.record.RecordPartialEq.TheImpl as records
use Rattle.reg_records.specs.declared.record.Record.{Record}
use Rattle.reg_set.specs.RecordOrder.{record_cmp}
use Rattle.reg_set.specs.LastRecords.{is_last, last}
use Rattle.reg_set.specs.Records.{Records}
use Rattle.reg_floored.proofs.Sets.{same_record}

eq-true : (q r : Record) → (records.ghosts).eq q r ≡ true → q ≡ r
eq-true q r e = search rules

eq-itself : (q r : Record) → q ≡ r → (records.ghosts).eq q r ≡ true
eq-itself q r e = search rules

-- answers that are true together are equal
alike : (a b : Bool) → (a ≡ true → b ≡ true) → (b ≡ true → a ≡ true) → a ≡ b
alike true b to from = sym (to refl)
alike false true to from = from refl
alike false false to from = refl

-- it tells apart what the order does
pub eq-by_cmp : (order : IsTotalOrder record_cmp) (apart : IsAntisymmetric record_cmp) (q r : Record)
    → (records.ghosts).eq q r ≡ eq_by_cmp record_cmp r q
eq-by_cmp order apart q r =
    alike _ _ (λ e. ap (λ x. eq_by_cmp record_cmp r x) (eq-true q r e) ∙ ap is_eq (tied_itself order r))
    (λ e. eq-itself q r (sym (same_record order apart r q e)))

-- what is asked of a last record, spelled out
pub is_last-of : (s : Records) (r : Record) → is_last s r ≡ option_map_or (eq_by_cmp record_cmp r) (last s r.key) false
unfolding is_last
is_last-of s r = refl
