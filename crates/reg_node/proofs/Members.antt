-- Members of sets that lists make.
use Rattle.std.proofs.Common.{◌≡◌, ℕ, ◌+◌, ◌<◌, Bor, Bool, true, false, ◌&&◌, ◌||◌, List, [], ◌∷◌}
use Rattle.std.proofs.Common.{◌++◌, length, get_or, map, take, refl, sym, ap, subst, ◌∙◌}
use Rattle.std.proofs.lemmas.List.{map-append, take_more}
use Rattle.std.proofs.lemmas.Bool.{false≢true}
use Rattle.std.proofs.lemmas.Cmp.{tied_itself}
use Rattle.std.specs.Cmp.{Equal-is, IsTotalOrder}
use Rattle.std.specs.FinSet.{contains, from_list, insert, contains-from_list, from_list_push, IsAntisymmetric}
use Rattle.std.specs.List.{AllByRecursion, list_all, list_any}
use Rattle.std.specs.Ordering.{eq_by_cmp, is_eq}
use Rattle.reg_records.specs.declared.record.Record.{Record}
use Rattle.reg_set.specs.RecordOrder.{record_cmp}

pub both_true : (a b : Bool) → (a && b) ≡ true → (a ≡ true) × (b ≡ true)
both_true true b h = (refl, h)
both_true false b h = absurd (false≢true h)

pub both : {a b : Bool} → a ≡ true → b ≡ true → (a && b) ≡ true
both {b = b} e f = ap (λ a. a && b) e ∙ f

pub or_left : (a b : Bool) → a ≡ true → (a || b) ≡ true
or_left true b e = refl
or_left false b e = absurd (false≢true e)

pub or_right : (a b : Bool) → b ≡ true → (a || b) ≡ true
or_right true b e = refl
or_right false b e = e

module _ (order : IsTotalOrder record_cmp) where
  each_in : (p : Record → Bool) (rs : List Record)
      → ((r : Record) → list_any (eq_by_cmp record_cmp r) rs ≡ true → p r ≡ true) → list_all p rs ≡ true
  each_in p [] h = refl
  each_in p (d ∷ ds) h =
      both (h d (ap (λ b. b || list_any (eq_by_cmp record_cmp d) ds) (ap is_eq (tied_itself order d))))
      (each_in p ds (λ r any. h r (or_right (eq_by_cmp record_cmp r d) _ any)))

  -- what holds of the members of its set holds of a list's records
  pub in_all : (p : Record → Bool) (rs : List Record)
      → ((r : Record) → contains (from_list {R = record_cmp} rs) r ≡ true → p r ≡ true) → list_all p rs ≡ true
  in_all p rs h = each_in p rs (λ r any. h r (contains-from_list order rs r ∙ any))

  no_one_in : (p : Record → Bool) (rs : List Record)
      → ((r : Record) → list_any (eq_by_cmp record_cmp r) rs ≡ true → p r ≡ false) → list_any p rs ≡ false
  no_one_in p [] h = refl
  no_one_in p (d ∷ ds) h =
      ap (λ b. b || list_any p ds) (h d (ap (λ b. b || list_any (eq_by_cmp record_cmp d) ds) (ap is_eq (tied_itself order d))))
      ∙ no_one_in p ds (λ r any. h r (or_right (eq_by_cmp record_cmp r d) _ any))

  -- what no member of its set passes, none of a list's records does
  pub none_in : (p : Record → Bool) (rs : List Record)
      → ((r : Record) → contains (from_list {R = record_cmp} rs) r ≡ true → p r ≡ false) → list_any p rs ≡ false
  none_in p rs h = no_one_in p rs (λ r any. h r (contains-from_list order rs r ∙ any))

module _ (order : IsTotalOrder record_cmp) (apart : IsAntisymmetric record_cmp) where
  pub equal : (r d : Record) → eq_by_cmp record_cmp r d ≡ true → r ≡ d
  equal r d h = apart r d ((Equal-is (record_cmp r d)).0 h)

  one_in : (P : Record → Type 0) (rs : List Record) (r : Record) → AllByRecursion P rs → list_any (eq_by_cmp record_cmp r) rs ≡ true → P r
  one_in P [] r all any = absurd (false≢true any)
  one_in P (d ∷ ds) r all any =
      elim (eq_by_cmp record_cmp r d) as (λ b. eq_by_cmp record_cmp r d ≡ b → (b || list_any (eq_by_cmp record_cmp r) ds) ≡ true → P r) [
        | true ↦ λ e _. subst P (sym (equal r d e)) all.0
        | false ↦ λ _ rest. one_in P ds r all.1 rest
      ] refl any

  -- what holds of each of a list's records holds of the members of its set
  pub each_of : (P : Record → Type 0) (rs : List Record) (r : Record)
      → AllByRecursion P rs → contains (from_list {R = record_cmp} rs) r ≡ true → P r
  each_of P rs r all within = one_in P rs r all (sym (contains-from_list order rs r) ∙ within)

  -- the set of records that are lent, with one more
  pub lent-more : (xs : List (Bor Record)) (i : ℕ) (r : Bor Record) → i < length xs → r ≡ get_or xs i r
      → insert (from_list {R = record_cmp} (map (λ (x : Bor Record). x.now) (take i xs))) r.now
      ≡ from_list (map (λ (x : Bor Record). x.now) (take (i + 1) xs))
  lent-more xs i r within at =
      sym (from_list_push order apart (map (λ (x : Bor Record). x.now) (take i xs)) r.now)
      ∙ ap (λ (rs : List Record). from_list rs) (sym (map-append (λ (x : Bor Record). x.now) (take i xs) (r ∷ [])))
      ∙ ap (λ (y : Bor Record). from_list (map (λ (x : Bor Record). x.now) (take i xs ++ y ∷ []))) at
      ∙ ap (λ (ys : List (Bor Record)). from_list (map (λ (x : Bor Record). x.now) ys)) (sym (take_more xs i r within))
