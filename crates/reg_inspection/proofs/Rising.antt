-- Items in ascending order, each once.
use Rattle.std.proofs.Common.{◌≡◌, ◌+◌, ◌<◌, ℕ, inl, inr, ◌⊎◌, ⊎_elim, List, [], ◌∷◌, ◌++◌}
use Rattle.std.proofs.Common.{length, get_or, map, take, Bor, refl, sym, ap, ◌∙◌}
use Rattle.std.proofs.lemmas.Cmp.{nat_cmp_total}
use Rattle.std.proofs.lemmas.List.{take_more}
use Rattle.std.proofs.lemmas.List.Sums.{fold_push}
use Rattle.std.specs.BTreeSet.{insert_key}
use Rattle.std.specs.Cmp.{IsTotalOrder}
use Rattle.std.specs.FinMap.{nat_cmp-IsAntisymmetric}
use Rattle.std.specs.List.{fold, AllByRecursion}
use Rattle.std.specs.List.Sorted.{IsStrictlySortedBy}
use Rattle.std.specs.Ordering.{match_ordering, nat_cmp, ordering_reverse}
use Rattle.std.specs.declared.cmp.Ordering.{Ordering}
use Rattle.std.specs.declared.cmp.Ordering.TheVariants.{Less, Equal, Greater}
use Rattle.reg_fold.specs.reg_entries.declared.entry.Entry.{Entry}
use Rattle.reg_inspection.specs.Shared.{ids_of, rising, rising_by}
use Rattle.reg_inspection.proofs.Members.{IsIn}

-- the keys above k are above what is below k
pub all_above : {K : Type 0} (cmp : K → K → Ordering) (o : IsTotalOrder cmp) (n k : K) (ks : List K)
    → cmp n k ≡ Less → AllByRecursion (λ y. cmp k y ≡ Less) ks → AllByRecursion (λ y. cmp n y ≡ Less) ks
all_above cmp o n k [] e h = tt
all_above cmp o n k (y ∷ ys) e h = (o.trans n k y e h.0, all_above cmp o n k ys e h.1)

module _ {K : Type 0} (cmp : K → K → Ordering) (o : IsTotalOrder cmp) (exact : (a b : K) → cmp a b ≡ Equal → a ≡ b) where
  -- the key in its place
  abbrev with_key : List K → K → List K
  with_key ks n = insert_key cmp ks n

  put_in : (ks : List K) (n x : K) → (n ≡ x) ⊎ IsIn x ks → IsIn x (with_key ks n)
  put_in [] n x h = h
  put_in (k ∷ ks) n x h =
      elim (cmp n k) as (λ r. cmp n k ≡ r → IsIn x (match_ordering r (n ∷ k ∷ ks) (k ∷ ks) (k ∷ with_key ks n))) [
        | Less ↦ λ e. h
        | Equal ↦ λ e. ⊎_elim (λ same. inl (sym (exact n k e) ∙ same)) (λ i. i) h
        | Greater ↦ λ e.
            ⊎_elim (λ same. inr (put_in ks n x (inl same))) (λ i. ⊎_elim (λ same. inl same) (λ j. inr (put_in ks n x (inr j))) i) h
      ] refl

  put_out : (ks : List K) (n x : K) → IsIn x (with_key ks n) → (n ≡ x) ⊎ IsIn x ks
  put_out [] n x h = h
  put_out (k ∷ ks) n x h =
      elim (cmp n k) as (λ r. IsIn x (match_ordering r (n ∷ k ∷ ks) (k ∷ ks) (k ∷ with_key ks n)) → (n ≡ x) ⊎ IsIn x (k ∷ ks)) [
        | Less ↦ λ i. i
        | Equal ↦ λ i. inr i
        | Greater ↦ λ i. ⊎_elim (λ same. inr (inl same)) (λ j. ⊎_elim (λ same. inl same) (λ there. inr (inr there)) (put_out ks n x j)) i
      ] h

  all_put_in : (ks ns : List K) (x : K) → IsIn x ks ⊎ IsIn x ns → IsIn x (fold with_key ks ns)
  all_put_in ks [] x h = ⊎_elim (λ i. i) (λ i. absurd i) h
  all_put_in ks (n ∷ ns) x h =
      all_put_in (with_key ks n) ns x
      (⊎_elim (λ i. inl (put_in ks n x (inr i))) (λ i. ⊎_elim (λ same. inl (put_in ks n x (inl same))) (λ j. inr j) i) h)

  all_put_out : (ks ns : List K) (x : K) → IsIn x (fold with_key ks ns) → IsIn x ks ⊎ IsIn x ns
  all_put_out ks [] x h = inl h
  all_put_out ks (n ∷ ns) x h =
      ⊎_elim (λ i. ⊎_elim (λ same. inr (inl same)) (λ j. inl j) (put_out ks n x i)) (λ i. inr (inr i)) (all_put_out (with_key ks n) ns x h)

  pub rising_by_in : (ns : List K) (x : K) → IsIn x ns → IsIn x (rising_by cmp ns)
  rising_by_in ns x i = all_put_in [] ns x (inr i)

  pub rising_by_out : (ns : List K) (x : K) → IsIn x (rising_by cmp ns) → IsIn x ns
  rising_by_out ns x i = ⊎_elim (λ none. absurd none) (λ j. j) (all_put_out [] ns x i)

  turned : (a b : K) → cmp a b ≡ Greater → cmp b a ≡ Less
  turned a b h = o.antisymm b a ∙ ap ordering_reverse h

  all_put : (P : K → Type 0) (ks : List K) (n : K) → AllByRecursion P ks → P n → AllByRecursion P (with_key ks n)
  all_put P [] n h p = (p, tt)
  all_put P (k ∷ ks) n h p =
      elim (cmp n k) as (λ r. AllByRecursion P (match_ordering r (n ∷ k ∷ ks) (k ∷ ks) (k ∷ with_key ks n))) [
        | Less ↦ (p, h)
        | Equal ↦ h
        | Greater ↦ (h.0, all_put P ks n h.1 p)
      ]

  sorted_put : (ks : List K) (n : K) → IsStrictlySortedBy cmp ks → IsStrictlySortedBy cmp (with_key ks n)
  unfolding IsStrictlySortedBy
  sorted_put [] n s = (tt, tt)
  sorted_put (k ∷ ks) n s =
      elim (cmp n k) as (λ r. cmp n k ≡ r → IsStrictlySortedBy cmp (match_ordering r (n ∷ k ∷ ks) (k ∷ ks) (k ∷ with_key ks n))) [
        | Less ↦ λ e. ((e, all_above cmp o n k ks e s.0), s)
        | Equal ↦ λ e. s
        | Greater ↦ λ e. (all_put (λ y. cmp k y ≡ Less) ks n s.0 (turned n k e), sorted_put ks n s.1)
      ] refl

  sorted_all : (ks ns : List K) → IsStrictlySortedBy cmp ks → IsStrictlySortedBy cmp (fold with_key ks ns)
  sorted_all ks [] s = s
  sorted_all ks (n ∷ ns) s = sorted_all (with_key ks n) ns (sorted_put ks n s)

  no_keys : IsStrictlySortedBy cmp []
  unfolding IsStrictlySortedBy
  no_keys = tt

  pub rising_by_rises : (ns : List K) → IsStrictlySortedBy cmp (rising_by cmp ns)
  rising_by_rises ns = sorted_all [] ns no_keys

pub rising_in : (ns : List ℕ) (x : ℕ) → IsIn x ns → IsIn x (rising ns)
rising_in = rising_by_in nat_cmp nat_cmp_total nat_cmp-IsAntisymmetric

pub rising_out : (ns : List ℕ) (x : ℕ) → IsIn x (rising ns) → IsIn x ns
rising_out = rising_by_out nat_cmp nat_cmp_total nat_cmp-IsAntisymmetric

pub rising_rises : (ns : List ℕ) → IsStrictlySortedBy nat_cmp (rising ns)
rising_rises = rising_by_rises nat_cmp nat_cmp_total nat_cmp-IsAntisymmetric

-- one more entry
pub ids_more : (es : List (Bor Entry)) (i : ℕ) (x : Bor Entry) → i < length es → x ≡ get_or es i x
    → insert_key nat_cmp (ids_of (map (λ e. e.now) (take i es))) x.now.id ≡ ids_of (map (λ e. e.now) (take (i + 1) es))
ids_more es i x within at =
    let ids : List (Bor Entry) → List ℕ = λ xs. map (λ (e : Entry). e.id) (map (λ (e : Bor Entry). e.now) xs) in
    sym (fold_push (insert_key nat_cmp) [] (ids (take i es)) x.now.id)
    ∙ ap rising (sym (ids_push (take i es) x))
    ∙ ap (λ (xs : List (Bor Entry)). ids_of (map (λ e. e.now) xs))
    (ap (λ (y : Bor Entry). take i es ++ y ∷ []) at ∙ sym (take_more es i x within))
  where
    ids_push : (xs : List (Bor Entry)) (x : Bor Entry)
        → map (λ (e : Entry). e.id) (map (λ (e : Bor Entry). e.now) (xs ++ x ∷ []))
        ≡ map (λ (e : Entry). e.id) (map (λ (e : Bor Entry). e.now) xs) ++ x.now.id ∷ []
    ids_push [] x = refl
    ids_push (y ∷ ys) x = ap (λ (l : List ℕ). y.now.id ∷ l) (ids_push ys x)
