-- What sets of records have, from the laws of their order.
use Rattle.std.proofs.Common.{◌≡◌, Bool, true, false, ◌&&◌, ◌||◌, ◌⊎◌, inl, inr, List, [], ◌∷◌, refl, sym, ap, ◌∙◌}
use Rattle.std.proofs.lemmas.Bool.{false≢true}
use Rattle.std.proofs.lemmas.Cmp.{tied_itself}
use Rattle.std.proofs.lemmas.Map.Views.{any-filter_same}
use Rattle.std.specs.Cmp.{IsTotalOrder}
use Rattle.std.specs.FinSet.{IsAntisymmetric, contains, from_list, retain, union}
use Rattle.std.specs.FinSet.{contains-from_list, contains-retain, contains-union, same_set}
use Rattle.std.specs.List.{AllByRecursion, filter, list_all, list_any}
use Rattle.std.specs.Ordering.{eq_by_cmp, is_eq}
use Rattle.std.specs.declared.cmp.Ordering.{Ordering}
use Rattle.std.specs.declared.cmp.Ordering.TheVariants.{Less, Equal, Greater}
use Rattle.reg_records.specs.declared.record.Record.{Record}
use Rattle.reg_set.specs.RecordOrder.{record_cmp}
use Rattle.reg_set.specs.Records.{Records}

pub both : {a b : Bool} → a ≡ true → b ≡ true → (a && b) ≡ true
both {a} {b} p q = ap (λ x. x && b) p ∙ q

pub first_of : (a b : Bool) → (a && b) ≡ true → a ≡ true
first_of true b h = refl
first_of false b h = absurd (false≢true h)

pub second_of : (a b : Bool) → (a && b) ≡ true → b ≡ true
second_of true b h = h
second_of false b h = absurd (false≢true h)

or_left : (a b : Bool) → a ≡ true → (a || b) ≡ true
or_left true b h = refl
or_left false b h = absurd (false≢true h)

or_right : (a b : Bool) → b ≡ true → (a || b) ≡ true
or_right true b h = refl
or_right false b h = h

pub either : (a b : Bool) → (a || b) ≡ true → (a ≡ true) ⊎ (b ≡ true)
either true b h = inl refl
either false b h = inr h

same_answers : (s t : Bool) → (s ≡ true → t ≡ true) → (t ≡ true → s ≡ true) → s ≡ t
same_answers true t f g = sym (f refl)
same_answers false true f g = g refl
same_answers false false f g = refl

equal : (o : Ordering) → is_eq o ≡ true → o ≡ Equal
equal Less h = absurd (false≢true h)
equal Equal h = refl
equal Greater h = absurd (false≢true h)

pub each_from_all : (p : Record → Bool) (xs : List Record) → list_all p xs ≡ true → AllByRecursion (λ r. p r ≡ true) xs
each_from_all p [] h = tt
each_from_all p (x ∷ xs) h = (first_of (p x) _ h, each_from_all p xs (second_of (p x) _ h))

pub all_from_each : (p : Record → Bool) (xs : List Record) → AllByRecursion (λ r. p r ≡ true) xs → list_all p xs ≡ true
all_from_each p [] h = refl
all_from_each p (x ∷ xs) h = both h.0 (all_from_each p xs h.1)

module _ (total : IsTotalOrder record_cmp) (apart : IsAntisymmetric record_cmp) where
  pub itself : (r : Record) → eq_by_cmp record_cmp r r ≡ true
  itself r = ap is_eq (tied_itself total r)

  pub same_record : (q r : Record) → eq_by_cmp record_cmp q r ≡ true → q ≡ r
  same_record q r h = apart q r (equal _ h)

  -- sets that have the same records are one
  pub one_set : (R S : Records) → ((q : Record) → contains R q ≡ true → contains S q ≡ true)
      → ((q : Record) → contains S q ≡ true → contains R q ≡ true) → R ≡ S
  one_set R S f g = same_set total apart R S (λ q. same_answers (contains R q) (contains S q) (f q) (g q))

  pub in_left : (R S : Records) (q : Record) → contains R q ≡ true → contains (union R S) q ≡ true
  in_left R S q h = contains-union total R S q ∙ or_left _ _ h

  pub in_right : (R S : Records) (q : Record) → contains S q ≡ true → contains (union R S) q ≡ true
  in_right R S q h = contains-union total R S q ∙ or_right _ _ h

  pub in_either : (R S : Records) (q : Record) → contains (union R S) q ≡ true → (contains R q ≡ true) ⊎ (contains S q ≡ true)
  in_either R S q h = either _ _ (sym (contains-union total R S q) ∙ h)

  contains-part : (S : Records) (p : Record → Bool) (q : Record) → contains (retain S p) q ≡ (contains S q && p q)
  contains-part S p q = contains-retain S p q (λ x e. ap p (sym (apart q x e)))

  pub in_part : (S : Records) (p : Record → Bool) (q : Record) → contains S q ≡ true → p q ≡ true → contains (retain S p) q ≡ true
  in_part S p q inside passes = contains-part S p q ∙ both inside passes

  pub of_part : (S : Records) (p : Record → Bool) (q : Record) → contains (retain S p) q ≡ true → contains S q ≡ true
  of_part S p q h = first_of _ (p q) (sym (contains-part S p q) ∙ h)

  pub passes_of_part : (S : Records) (p : Record → Bool) (q : Record) → contains (retain S p) q ≡ true → p q ≡ true
  passes_of_part S p q h = second_of (contains S q) _ (sym (contains-part S p q) ∙ h)

  -- the records of a list that pass are those of its set that pass
  pub from_list-filter : (S : Records) (xs : List Record) (p : Record → Bool) → S ≡ from_list xs → from_list (filter p xs) ≡ retain S p
  from_list-filter S xs p is =
      same_set total apart _ _ (λ q.
      contains-from_list total (filter p xs) q ∙ any-filter_same (eq_by_cmp record_cmp q) p (p q) (λ x e. ap p (sym (same_record q x e))) xs
      ∙ turned (p q) _ ∙ ap (λ b. b && p q) (sym (ap (λ s. contains s q) is ∙ contains-from_list total xs q)) ∙ sym (contains-part S p q))
    where
      turned : (a b : Bool) → (a && b) ≡ (b && a)
      turned true true = refl
      turned true false = refl
      turned false true = refl
      turned false false = refl

  -- what holds of each of a list holds of one that is among them
  pub at_any : (p : Record → Bool) (q : Record) (xs : List Record)
      → list_all p xs ≡ true → list_any (eq_by_cmp record_cmp q) xs ≡ true → p q ≡ true
  at_any p q [] all one = absurd (false≢true one)
  at_any p q (x ∷ xs) all one =
      elim (eq_by_cmp record_cmp q x) as (λ t.
      eq_by_cmp record_cmp q x ≡ t → (t || list_any (eq_by_cmp record_cmp q) xs) ≡ true → p q ≡ true) [
        | true ↦ λ e _. ap p (same_record q x e) ∙ first_of _ _ all
        | false ↦ λ _ rest. at_any p q xs (second_of _ _ all) rest
      ] refl one

  -- and the other way round
  pub all_from_any : (p : Record → Bool) (xs : List Record)
      → ((q : Record) → list_any (eq_by_cmp record_cmp q) xs ≡ true → p q ≡ true) → list_all p xs ≡ true
  all_from_any p [] each = refl
  all_from_any p (x ∷ xs) each =
      both (each x (or_left (eq_by_cmp record_cmp x x) _ (itself x)))
      (all_from_any p xs (λ q h. each q (or_right (eq_by_cmp record_cmp q x) _ h)))
