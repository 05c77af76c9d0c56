-- How often each key is among some.
use Rattle.std.proofs.Common.{◌≡◌, ◌+◌, ◌≤◌, ℕ, Bool, true, false, cond, List, [], ◌∷◌, ◌++◌}
use Rattle.std.proofs.Common.{length, map, Option, Some, None, refl, sym, ap, subst, ◌∙◌, arith}
use Rattle.std.proofs.lemmas.Bool.{false≢true}
use Rattle.std.proofs.lemmas.Cmp.{eq_by_cmp_equiv, nat_list_cmp_total, tied_itself}
use Rattle.std.specs.Cmp.Lexicographic.{options_total}
use Rattle.std.proofs.lemmas.List.Sums.{count_by-le-length, fold_push, sum_by_push}
use Rattle.std.specs.BTreeMap.{insert_entry}
use Rattle.std.specs.BTreeSet.{insert_key}
use Rattle.std.specs.Cmp.{IsTotalOrder}
use Rattle.std.specs.List.{AllByRecursion, Contains, count_by}
use Rattle.std.specs.List.Sorted.{IsStrictlySortedBy}
use Rattle.std.specs.FinMap.{nat_cmp-IsAntisymmetric, slice_cmp-IsAntisymmetric}
use Rattle.std.specs.Map.{keys_of}
use Rattle.std.specs.Option.{unwrap_or}
use Rattle.std.specs.Ordering.{eq_by_cmp, is_eq, match_ordering}
use Rattle.std.specs.declared.cmp.Ordering.{Ordering}
use Rattle.std.specs.declared.cmp.Ordering.TheVariants.{Less, Equal, Greater}
use Rattle.reg_inspection.specs.Foreign.{TalliesHaveEach, TalliesRise, count_of, keytype_cmp}
use Rattle.reg_inspection.specs.Shared.{rising_by}
use Rattle.reg_inspection.proofs.Members.{contains_in, in_contains}
use Rattle.reg_inspection.proofs.Rising.{all_above, rising_by_in, rising_by_out, rising_by_rises}

equal : (r : Ordering) → is_eq r ≡ true → r ≡ Equal
equal Less h = absurd (false≢true h)
equal Equal h = refl
equal Greater h = absurd (false≢true h)

module _ {K : Type 0} (cmp : K → K → Ordering) (o : IsTotalOrder cmp) (exact : (a b : K) → cmp a b ≡ Equal → a ≡ b) where
  -- how often a key is among some
  abbrev times : List K → K → ℕ
  times xs k = count_by (eq_by_cmp cmp k) xs

  -- the keys, each with its number
  abbrev numbered : (K → ℕ) → List K → List (K × ℕ)
  numbered f ks = map (λ k. (k, f k)) ks

  pub keys_are : (f : K → ℕ) (ks : List K) → keys_of (numbered f ks) ≡ ks
  keys_are f [] = refl
  keys_are f (k ∷ ks) = ap (λ (l : List K). k ∷ l) (keys_are f ks)

  same_past : (f g : K → ℕ) (x : K) → ((k : K) → cmp x k ≡ Less → g k ≡ f k) → (ks : List K)
      → AllByRecursion (λ y. cmp x y ≡ Less) ks → numbered f ks ≡ numbered g ks
  same_past f g x same [] past = refl
  same_past f g x same (k ∷ ks) past =
      ap (λ (n : ℕ). (k, n) ∷ numbered f ks) (sym (same k past.0))
      ∙ ap (λ (l : List (K × ℕ)). (k, g k) ∷ l) (same_past f g x same ks past.1)

  put : (f g : K → ℕ) (x : K) (n : ℕ) → n ≡ g x → ((k : K) → cmp x k ≡ Less → g k ≡ f k)
      → ((k : K) → cmp x k ≡ Greater → g k ≡ f k) → (ks : List K) → IsStrictlySortedBy cmp ks
      → insert_entry cmp (numbered f ks) x n ≡ numbered g (insert_key cmp ks x)
  unfolding IsStrictlySortedBy
  put f g x n is less greater [] sorted = ap (λ (m : ℕ). (x, m) ∷ []) is
  put f g x n is less greater (k ∷ ks) sorted =
      elim (cmp x k) as (λ r. cmp x k ≡ r
      → match_ordering r ((x, n) ∷ (k, f k) ∷ numbered f ks) ((k, n) ∷ numbered f ks) ((k, f k) ∷ insert_entry cmp (numbered f ks) x n)
      ≡ numbered g (match_ordering r (x ∷ k ∷ ks) (k ∷ ks) (k ∷ insert_key cmp ks x))) [
        | Less ↦ λ e.
            ap (λ (m : ℕ). (x, m) ∷ numbered f (k ∷ ks)) is
            ∙ ap (λ (l : List (K × ℕ)). (x, g x) ∷ l) (same_past f g x less (k ∷ ks) (e, all_above cmp o x k ks e sorted.0))
        | Equal ↦ λ e.
            ap (λ (m : ℕ). (k, m) ∷ numbered f ks) (is ∙ ap g (exact x k e))
            ∙ ap (λ (l : List (K × ℕ)). (k, g k) ∷ l)
            (same_past f g x less ks (subst (λ (z : K). AllByRecursion (λ y. cmp z y ≡ Less) ks) (sym (exact x k e)) sorted.0))
        | Greater ↦ λ e.
            ap (λ (m : ℕ). (k, m) ∷ insert_entry cmp (numbered f ks) x n) (sym (greater k e))
            ∙ ap (λ (l : List (K × ℕ)). (k, g k) ∷ l) (put f g x n is less greater ks sorted.1)
      ] refl

  times_push : (xs : List K) (x k : K) → times (xs ++ x ∷ []) k ≡ times xs k + cond (eq_by_cmp cmp k x) 1 0
  times_push xs x k = sum_by_push (λ (y : K). cond (eq_by_cmp cmp k y) 1 0) xs x

  not_itself : (xs : List K) (x k : K) → eq_by_cmp cmp x k ≡ false → times (xs ++ x ∷ []) k ≡ times xs k
  not_itself xs x k apart =
      let none : ◌≡◌ {A = ℕ} (cond (eq_by_cmp cmp k x) 1 0) 0 = ap (λ (b : Bool). cond b 1 0) ((eq_by_cmp_equiv o).symm k x ∙ apart) in
      omega (arith, times_push xs x k, none)

  itself : (xs : List K) (x k : K) → eq_by_cmp cmp x k ≡ true → times (xs ++ x ∷ []) k ≡ times xs k + 1
  itself xs x k same = times_push xs x k ∙ ap (λ (b : Bool). times xs k + cond b 1 0) ((eq_by_cmp_equiv o).symm k x ∙ same)

  pub tally_more : (xs : List K) (x : K) (n : ℕ) → n ≡ times xs x + 1 → (es : List (K × ℕ))
      → es ≡ numbered (times xs) (rising_by cmp xs) → IsStrictlySortedBy cmp (keys_of es)
      → insert_entry cmp es x n ≡ numbered (times (xs ++ x ∷ [])) (rising_by cmp (xs ++ x ∷ []))
  tally_more xs x n is es are sorted =
      ap (λ (l : List (K × ℕ)). insert_entry cmp l x n) are
      ∙ put (times xs) (times (xs ++ x ∷ [])) x n (is ∙ sym (itself xs x x (ap is_eq (tied_itself o x))))
      (λ k e. not_itself xs x k (ap is_eq e)) (λ k e. not_itself xs x k (ap is_eq e))
      (rising_by cmp xs) (subst (IsStrictlySortedBy cmp) (ap keys_of are ∙ keys_are (times xs) (rising_by cmp xs)) sorted)
      ∙ ap (numbered (times (xs ++ x ∷ []))) (sym (fold_push (insert_key cmp) [] xs x))

  -- what the map says of a key, after one more
  pub times_more : (xs : List K) (x q : K) (n : ℕ) (old new : Option ℕ) → n ≡ times xs x + 1
      → unwrap_or old 0 ≡ times xs q → new ≡ cond (eq_by_cmp cmp x q) (Some n) old
      → unwrap_or new 0 ≡ times (xs ++ x ∷ []) q
  times_more xs x q n old new is was now =
      ap (λ (v : Option ℕ). unwrap_or v 0) now
      ∙ elim (eq_by_cmp cmp x q) as (λ b. eq_by_cmp cmp x q ≡ b → unwrap_or (cond b (Some n) old) 0 ≡ times (xs ++ x ∷ []) q) [
        | true ↦ λ e. is ∙ ap (λ (k : K). times xs k + 1) (exact x q (equal (cmp x q) e)) ∙ sym (itself xs x q e)
        | false ↦ λ e. was ∙ sym (not_itself xs x q e)
      ] refl

  pub few_times : (xs : List K) (x : K) → times xs x ≤ length xs
  few_times xs x = count_by-le-length (eq_by_cmp cmp x) xs

-- the order of keytypes
pub keytypes_total : IsTotalOrder keytype_cmp
keytypes_total = options_total nat_list_cmp_total

pub exact : (a b : Option (List ℕ)) → keytype_cmp a b ≡ Equal → a ≡ b
exact None None e = refl
exact None (Some y) e = absurd (cc)
exact (Some x) None e = absurd (cc)
exact (Some x) (Some y) e = ap Some (slice_cmp-IsAntisymmetric nat_cmp-IsAntisymmetric x y e)

pub tallies_rise : TalliesRise
tallies_rise keytypes =
    subst (IsStrictlySortedBy keytype_cmp)
    (sym (keys_are keytype_cmp keytypes_total exact (count_of keytypes) (rising_by keytype_cmp keytypes)))
    (rising_by_rises keytype_cmp keytypes_total exact keytypes)

pub tallies_have_each : TalliesHaveEach
tallies_have_each keytypes keytype =
    let keys = keys_are keytype_cmp keytypes_total exact (count_of keytypes) (rising_by keytype_cmp keytypes) in
    let rising : List (Option (List ℕ)) = rising_by keytype_cmp keytypes in (
      λ has. contains_in keytypes keytype
          (rising_by_out keytype_cmp keytypes_total exact keytypes keytype (
          in_contains rising keytype (subst (λ (l : List (Option (List ℕ))). Contains l keytype) keys has))),
      λ has. subst (λ (l : List (Option (List ℕ))). Contains l keytype) (sym keys)
          (contains_in rising keytype (rising_by_in keytype_cmp keytypes_total exact keytypes keytype (in_contains keytypes keytype has))),
    )
