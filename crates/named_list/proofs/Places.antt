-- Where a name is in a list.
use Rattle.std.proofs.Common.{◌≡◌, ℕ, ◌+◌, ◌<◌, ◌≤◌, Bool, true, false, cond, not, nat_lt, List, [], ◌∷◌, length, map, get_or, Some}
use Rattle.std.proofs.Common.{None, option_and_then, find, position, bytes_eq, inl, inr, ◌⊎◌, refl, sym, ap, subst, ◌∙◌, arith}
use Rattle.std.proofs.Math.Nat.{eq-or-lt_of_le}
use Rattle.std.proofs.lemmas.Bool.{lt-ltb, le-ltb, ltb-false, or_parts}
use Rattle.std.proofs.lemmas.List.{get_or-map, length-map}
use Rattle.std.proofs.lemmas.List.Folds.{find_at, list_any_none}
use Rattle.std.proofs.lemmas.List.Sorted.{list_any-IsPermutation}
use Rattle.std.proofs.lemmas.List.Sums.{position_or_len_is}
use Rattle.std.proofs.lemmas.Map.Keys.{apart_from_distinct, Less-from_sorted}
use Rattle.std.proofs.lemmas.Option.{slice_get_past}
use Rattle.std.proofs.lemmas.Slice.Eq.{bytes_eq-Decides}
use Rattle.std.specs.List.{list_any, slice_get, position_or_len}
use Rattle.std.specs.List.Sorted.{IsStrictlySortedBy}
use Rattle.std.specs.Ordering.{is_eq, ordering_reverse}
use Rattle.std.specs.declared.cmp.Ordering.{Ordering}
use Rattle.std.specs.declared.cmp.Ordering.TheVariants.{Less, Equal, Greater}
use Rattle.named_list.specs.Distinct.{all_distinct}
use Rattle.named_list.specs.Index.{Place, hash_cmp, names_at, IsIndex}
use Rattle.named_list.proofs.Distinct.{IsDistinct-from_true}
use Rattle.named_list.proofs.Hashed.{hash_cmp_total, is_eq-hash_cmp}

-- ---- the first place that passes a test

module _ {X : Type 0} (p : X → Bool) where
  at_place : (xs : List X) (n : ℕ) → position_or_len p xs ≡ n → n < length xs → position p xs ≡ Some n
  at_place xs n e h = ap (λ k. cond (nat_lt k (length xs)) (Some k) None) e ∙ ap (λ b. cond b (Some n) None) (lt-ltb n (length xs) h)

  at_no_place : (xs : List X) (n : ℕ) → position_or_len p xs ≡ n → length xs ≤ n → position p xs ≡ None
  at_no_place xs n e h = ap (λ k. cond (nat_lt k (length xs)) (Some k) None) e ∙ ap (λ b. cond b (Some n) None) (le-ltb n (length xs) h)

  position_is : (xs : List X) (i : ℕ) (d : X) → i < length xs
      → ((k : ℕ) → k < i → p (get_or xs k d) ≡ false) → p (get_or xs i d) ≡ true → position p xs ≡ Some i
  position_is xs i d within none here = at_place xs i (position_or_len_is p xs i d (omega arith) none (λ _. here)) within

  no_place : (xs : List X) → list_any p xs ≡ false → position_or_len p xs ≡ length xs
  no_place [] h = refl
  no_place (x ∷ xs) h =
      let apart = or_parts (p x) (list_any p xs) h in
      ap (λ b. cond (not b) (1 + position_or_len p xs) 0) apart.0 ∙ ap (λ n. 1 + n) (no_place xs apart.1) ∙ omega arith

  position-none : (xs : List X) → list_any p xs ≡ false → position p xs ≡ None
  position-none xs h = at_no_place xs (length xs) (no_place xs h) (omega arith)

  find-at_position : (xs : List X) (n : ℕ) → position_or_len p xs ≡ n → (b : Bool)
      → nat_lt n (length xs) ≡ b → slice_get xs n ≡ option_and_then (slice_get xs) (cond b (Some n) None)
  find-at_position xs n e true h = refl
  find-at_position xs n e false h = slice_get_past xs n (ltb-false n (length xs) h)

  pub find-position : (xs : List X) → find p xs ≡ option_and_then (slice_get xs) (position p xs)
  find-position xs = find_at p xs ∙ find-at_position xs (position_or_len p xs) refl _ refl

  position_or_len-map : {Y : Type 0} (f : Y → X) (ys : List Y) → position_or_len p (map f ys) ≡ position_or_len (λ y. p (f y)) ys
  position_or_len-map f [] = refl
  position_or_len-map f (y ∷ ys) = ap (λ n. cond (not (p (f y))) (1 + n) 0) (position_or_len-map f ys)

  pub position-map : {Y : Type 0} (f : Y → X) (ys : List Y) → position p (map f ys) ≡ position (λ y. p (f y)) ys
  position-map f ys = λ i. cond (nat_lt (position_or_len-map f ys i) (length-map ys f i)) (Some (position_or_len-map f ys i)) None

-- ---- names

apart_if : (x y : List ℕ) → is_eq (hash_cmp x y) ≡ false → bytes_eq x y ≡ false
apart_if x y h = sym (is_eq-hash_cmp x y) ∙ h

module _ (s : List ℕ) where
  pub named_here : (names : List (List ℕ)) (i : ℕ) → all_distinct bytes_eq names ≡ true → i < length names
      → bytes_eq (get_or names i []) s ≡ true → position (λ name. bytes_eq name s) names ≡ Some i
  named_here names i distinct within same =
      let is : get_or names i [] ≡ s = (bytes_eq-Decides (get_or names i []) s).0 same in
      position_is (λ name. bytes_eq name s) names i [] within
      (λ k before.
      ap (bytes_eq (get_or names k [])) (sym is)
      ∙ apart_from_distinct bytes_eq names k i [] (IsDistinct-from_true bytes_eq names distinct) before within)
      same

  pub named_at : (names : List (List ℕ)) (i : ℕ) → all_distinct bytes_eq names ≡ true → i < length names
      → hash_cmp (get_or names i []) s ≡ Equal → position (λ name. bytes_eq name s) names ≡ Some i
  named_at names i distinct within here = named_here names i distinct within (sym (is_eq-hash_cmp (get_or names i []) s) ∙ ap is_eq here)

  module _ (ordered : List (List ℕ)) (in_order : IsStrictlySortedBy hash_cmp ordered)
      (m : ℕ) (within : m < length ordered) (d : List ℕ) where
    at_or_below : (k : ℕ) → (k ≡ m) ⊎ (k < m) → hash_cmp (get_or ordered m d) s ≡ Less
        → hash_cmp (get_or ordered k d) s ≡ Less
    at_or_below k (inl e) less = ap (λ j. hash_cmp (get_or ordered j d) s) e ∙ less
    at_or_below k (inr h) less =
        hash_cmp_total.trans (get_or ordered k d) (get_or ordered m d) s
        (Less-from_sorted hash_cmp ordered k m d in_order h within) less

    apart_below : hash_cmp (get_or ordered m d) s ≡ Less → (k : ℕ) → k < m + 1 → bytes_eq (get_or ordered k d) s ≡ false
    apart_below less k h = apart_if (get_or ordered k d) s (ap is_eq (at_or_below k (eq-or-lt_of_le (omega arith)) less))

    turned : (x : List ℕ) → hash_cmp x s ≡ Greater → hash_cmp s x ≡ Less
    turned x h = hash_cmp_total.antisymm s x ∙ ap ordering_reverse h

    at_or_above : (k : ℕ) → (m ≡ k) ⊎ (m < k) → k < length ordered
        → hash_cmp (get_or ordered m d) s ≡ Greater → hash_cmp s (get_or ordered k d) ≡ Less
    at_or_above k (inl e) inside greater = ap (λ j. hash_cmp s (get_or ordered j d)) (sym e) ∙ turned (get_or ordered m d) greater
    at_or_above k (inr h) inside greater =
        hash_cmp_total.trans s (get_or ordered m d) (get_or ordered k d) (turned (get_or ordered m d) greater)
        (Less-from_sorted hash_cmp ordered m k d in_order h inside)

    apart_above : hash_cmp (get_or ordered m d) s ≡ Greater → (k : ℕ)
        → m ≤ k → k < length ordered → bytes_eq (get_or ordered k d) s ≡ false
    apart_above greater k h inside =
        apart_if (get_or ordered k d) s
        (ap is_eq (
        hash_cmp_total.antisymm (get_or ordered k d) s ∙ ap ordering_reverse (at_or_above k (eq-or-lt_of_le h) inside greater)))

  pub none_of : (names : List (List ℕ)) → ((k : ℕ) (d : List ℕ) → k < length names → bytes_eq (get_or names k d) s ≡ false)
      → position (λ name. bytes_eq name s) names ≡ None
  none_of names none = position-none (λ name. bytes_eq name s) names (list_any_none (λ name. bytes_eq name s) names none)

  pub absent : (names : List (List ℕ)) (places : List Place) → IsIndex names places
      → ((k : ℕ) (d : List ℕ) → k < length places → bytes_eq (get_or (names_at names places) k d) s ≡ false)
      → position (λ name. bytes_eq name s) names ≡ None
  absent names places index none =
      position-none (λ name. bytes_eq name s) names
      (list_any-IsPermutation (λ name. bytes_eq name s) names (names_at names places) index.whole
      ∙ list_any_none (λ name. bytes_eq name s) (names_at names places) (λ k d h. none k d (subst (λ n. k < n) (length-map places _) h)))

-- what the name at a place of the index settles
module _ (s : List ℕ) (names : List (List ℕ)) (places : List Place)
    (index : IsIndex names places) (m : ℕ) (within : m < length places) (d : List ℕ) where
  fits : m < length (names_at names places)
  fits = subst (λ n. m < n) (sym (length-map places _)) within

  there : (o : Ordering) → hash_cmp (get_or names (get_or places m (0, 0)).1 []) s ≡ o
      → hash_cmp (get_or (names_at names places) m d) s ≡ o
  there o h = ap (λ n. hash_cmp n s) (get_or-map (λ (p : Place). get_or names p.1 []) places m (0, 0) d within) ∙ h

  pub none_below : hash_cmp (get_or names (get_or places m (0, 0)).1 []) s ≡ Less
      → (k : ℕ) → k < m + 1 → bytes_eq (get_or (names_at names places) k d) s ≡ false
  none_below less = apart_below s (names_at names places) index.in_order m fits d (there Less less)

  pub none_above : hash_cmp (get_or names (get_or places m (0, 0)).1 []) s ≡ Greater → (k : ℕ)
      → m ≤ k → k < length places → bytes_eq (get_or (names_at names places) k d) s ≡ false
  none_above greater k h inside =
      apart_above s (names_at names places) index.in_order m fits d
      (there Greater greater) k h (subst (λ n. k < n) (sym (length-map places _)) inside)
