-- Removing records one after another removes them all.
use Rattle.std.proofs.Common.{◌≡◌, ℕ, ◌+◌, ◌<◌, Bool, true, false, cond, not, ◌&&◌, ◌||◌, List}
use Rattle.std.proofs.Common.{[], ◌∷◌, ◌++◌, length, get_or, take, refl, sym, ap, ◌∙◌}
use Rattle.std.proofs.lemmas.List.Elements.{filter_more}
use Rattle.std.specs.Cmp.{IsTotalOrder}
use Rattle.std.specs.FinSet as set
use Rattle.std.specs.FinSet.{IsAntisymmetric}
use Rattle.std.specs.List.{filter}
use Rattle.std.specs.Ordering.{eq_by_cmp}
use Rattle.reg_values.specs.reg_records.declared.record.Record.{Record}
use Rattle.reg_set.specs.RecordOrder.{record_cmp}
use Rattle.reg_set.specs.Records.{Records}
use Rattle.reg_fold.proofs.Folding.{of_list}

all_of : (s : Bool) → s ≡ (s && true)
all_of true = refl
all_of false = refl

either_out : (e s x : Bool) → (not e && (s && not x)) ≡ (s && not (e || x))
either_out true true x = refl
either_out true false x = refl
either_out false s x = refl

module _ (total : IsTotalOrder record_cmp) (ties : IsAntisymmetric record_cmp) (S : Records) where
  pub difference-empty : S ≡ set.difference S set.empty
  difference-empty =
      set.same_set total ties S (set.difference S set.empty) (λ q.
      all_of (set.contains S q)
      ∙ ap (λ b. set.contains S q && not b) (sym (set.contains-empty record_cmp q))
      ∙ sym (set.contains-difference total S set.empty q))

  difference-insert : (X : Records) (r : Record) → set.remove (set.difference S X) r ≡ set.difference S (set.insert X r)
  difference-insert X r =
      set.same_set total ties (set.remove (set.difference S X) r) (set.difference S (set.insert X r)) (λ q.
      set.contains-remove total (set.difference S X) r q
      ∙ ap (λ b. not (eq_by_cmp record_cmp q r) && b) (set.contains-difference total S X q)
      ∙ either_out (eq_by_cmp record_cmp q r) (set.contains S q) (set.contains X q)
      ∙ ap (λ b. set.contains S q && not b) (sym (set.contains-insert total X r q))
      ∙ sym (set.contains-difference total S (set.insert X r) q))

  pub difference-more : (test : Record → Bool) (xs : List Record) (i : ℕ) (r : Record) → i < length xs → r ≡ get_or xs i r
      → cond (test r) (set.remove (set.difference S (of_list (filter test (take i xs)))) r)
      (set.difference S (of_list (filter test (take i xs))))
      ≡ set.difference S (of_list (filter test (take (i + 1) xs)))
  difference-more test xs i r within at =
      let before = filter test (take i xs) in
      let last : Record → List Record = λ x. cond (test x) (x ∷ []) [] in
      one (test r)
      ∙ ap (λ ys. set.difference S (of_list (before ++ ys))) (ap last at)
      ∙ ap (λ ys. set.difference S (of_list ys)) (sym (filter_more test xs i r within))
    where
      nothing : (ys : List Record) → ys ≡ ys ++ []
      nothing [] = refl
      nothing (y ∷ ys) = ap (λ zs. y ∷ zs) (nothing ys)

      one : (b : Bool)
          → cond b (set.remove (set.difference S (of_list (filter test (take i xs)))) r)
          (set.difference S (of_list (filter test (take i xs))))
          ≡ set.difference S (of_list (filter test (take i xs) ++ cond b (r ∷ []) []))
      one true =
          difference-insert (of_list (filter test (take i xs))) r
          ∙ ap (set.difference S) (sym (set.from_list_push total ties (filter test (take i xs)) r))
      one false = ap (λ ys. set.difference S (of_list ys)) (nothing (filter test (take i xs)))
