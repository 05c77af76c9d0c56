-- What `==` answers at records.
use Rattle.std.proofs.Common.{◌≡◌, Bool, true, List, [], ◌∷◌, ◌||◌, refl, sym, ap, ◌∙◌, rules}
use Rattle.std.proofs.lemmas.Cmp.{tied_itself}
use Rattle.std.specs.List.{list_any}
use Rattle.std.specs.Ordering.{eq_by_cmp, is_eq}
use Rattle.reg_records.specs.contracts.record.RecordPartialEq.TheImpl as records
use Rattle.reg_records.specs.declared.record.Record.{Record}
use Rattle.reg_set.specs.RecordOrder.{record_cmp}
use Rattle.reg_set.proofs.Orders.{record_cmp-total, record_cmp-ties}
use Rattle.reg_set.proofs.Lasts.{equal}
use Rattle.reg_set.proofs.Unions.{same_answers}

eq-true : (q r : Record) → (records.ghosts).eq q r ≡ true → q ≡ r
eq-true q r e = search rules

eq-itself : (q r : Record) → q ≡ r → (records.ghosts).eq q r ≡ true
eq-itself q r e = search rules

-- it tells apart what the order does
pub eq-by_cmp : (r q : Record) → (records.ghosts).eq q r ≡ eq_by_cmp record_cmp r q
eq-by_cmp r q =
    same_answers _ _ (λ e. ap (λ x. eq_by_cmp record_cmp r x) (eq-true q r e) ∙ ap is_eq (tied_itself record_cmp-total r))
    (λ e. eq-itself q r (sym (record_cmp-ties r q (equal _ e))))

pub list_any-same : {X : Type 0} (p t : X → Bool) → ((x : X) → p x ≡ t x) → (xs : List X) → list_any p xs ≡ list_any t xs
list_any-same p t same [] = refl
list_any-same p t same (x ∷ xs) = λ i. same x i || list_any-same p t same xs i
