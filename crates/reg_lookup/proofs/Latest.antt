-- The last item that a test finds, where the items rise.
use Rattle.std.proofs.Common.{◌≡◌, ℕ, Bool, true, false, cond, List, [], ◌∷◌, ◌++◌, map, reverse, Some, None, refl, sym, ap, ◌∙◌}
use Rattle.std.proofs.lemmas.Cmp.{on_total, nat_cmp_total}
use Rattle.std.proofs.lemmas.List.{map-append, reverse-append}
use Rattle.std.proofs.lemmas.List.Folds.{find-append}
use Rattle.std.proofs.lemmas.List.Kept.{IsStrictlySortedBy-filter}
use Rattle.std.proofs.lemmas.Map.Keys.{sorted_from_strictly_increasing}
use Rattle.std.specs.List.{find, filter, fold, reduce, AllByRecursion}
use Rattle.std.specs.List.Sorted.{IsStrictlySortedBy, IsStrictlyIncreasing}
use Rattle.std.specs.Option.{option_map, option_or}
use Rattle.std.specs.Ordering.{is_lt, nat_cmp, on, ord_max, ordering_reverse}
use Rattle.std.specs.declared.cmp.Ordering.{Ordering}
use Rattle.std.specs.declared.cmp.Ordering.TheVariants.{Less}

module _ {X : Type 0} where
  -- the later of two items
  abbrev later : X → X → X
  later x y = y

  -- where there are more items, the last one is one of these
  last_more : (x : X) (ys : List X) → option_or (reduce later ys) (Some x) ≡ Some (fold later x ys)
  last_more x [] = refl
  last_more x (y ∷ ys) = refl

  last_same : (ys : List X) → option_or (reduce later ys) None ≡ reduce later ys
  last_same [] = refl
  last_same (y ∷ ys) = refl

  -- what is found first from the end on is the last of those that pass
  find_reverse : (p : X → Bool) (xs : List X) → find p (reverse xs) ≡ reduce later (filter p xs)
  find_reverse p [] = refl
  find_reverse p (x ∷ xs) =
      ap (find p) (reverse-append (x ∷ []) xs)
      ∙ find-append p (reverse xs) (x ∷ [])
      ∙ ap (λ o. option_or o (find p (x ∷ []))) (find_reverse p xs)
      ∙ elim (p x) as (λ b.
      option_or (reduce later (filter p xs)) (cond b (Some x) None) ≡ reduce later (cond b (x ∷ filter p xs) (filter p xs))) [
        | true ↦ last_more x (filter p xs)
        | false ↦ last_same (filter p xs)
      ]

  module _ (f : X → ℕ) where
    abbrev by : X → X → Ordering
    by = on f nat_cmp

    wins : (x y : X) → by x y ≡ Less → ord_max by x y ≡ y
    wins x y less = ap (λ o. cond (is_lt o) x y) ((on_total f nat_cmp_total).antisymm y x ∙ ap ordering_reverse less)

    greatest_is_last : (x : X) (ys : List X) → AllByRecursion (λ y. by x y ≡ Less) ys
        → IsStrictlySortedBy by ys → fold (ord_max by) x ys ≡ fold later x ys
    unfolding IsStrictlySortedBy
    greatest_is_last x [] h s = refl
    greatest_is_last x (y ∷ ys) h s = ap (λ a. fold (ord_max by) a ys) (wins x y h.0) ∙ greatest_is_last y ys s.0 s.1

    reduced : (xs : List X) → IsStrictlySortedBy by xs → reduce (ord_max by) xs ≡ reduce later xs
    unfolding IsStrictlySortedBy
    reduced [] s = refl
    reduced (x ∷ xs) s = ap Some (greatest_is_last x xs s.0 s.1)

    all_above : (x : X) (ys : List X) → AllByRecursion (λ n. nat_cmp (f x) n ≡ Less) (map f ys) → AllByRecursion (λ y. by x y ≡ Less) ys
    all_above x [] h = tt
    all_above x (y ∷ ys) h = (h.0, all_above x ys h.1)

    sorted : (xs : List X) → IsStrictlySortedBy nat_cmp (map f xs) → IsStrictlySortedBy by xs
    unfolding IsStrictlySortedBy
    sorted [] s = tt
    sorted (x ∷ xs) s = (all_above x xs s.0, sorted xs s.1)

    -- where the items rise, it is the greatest of these
    pub find_greatest : (p : X → Bool) (xs : List X) → IsStrictlyIncreasing (map f xs)
        → find p (reverse xs) ≡ reduce (ord_max by) (filter p xs)
    find_greatest p xs rise =
        find_reverse p xs
        ∙ sym (reduced (filter p xs) (IsStrictlySortedBy-filter by p xs (sorted xs (sorted_from_strictly_increasing (map f xs) rise))))

-- what is found, seen otherwise
pub find-map : {X Y : Type 0} (v : X → Y) (p : Y → Bool) (xs : List X) → option_map v (find (λ x. p (v x)) xs) ≡ find p (map v xs)
find-map v p [] = refl
find-map v p (x ∷ xs) =
    elim (p (v x)) as (λ b. option_map v (cond b (Some x) (find (λ z. p (v z)) xs)) ≡ cond b (Some (v x)) (find p (map v xs))) [
      | true ↦ refl
      | false ↦ find-map v p xs
    ]

pub map_reverse : {X Y : Type 0} (v : X → Y) (xs : List X) → map v (reverse xs) ≡ reverse (map v xs)
map_reverse v [] = refl
map_reverse v (x ∷ xs) =
    ap (map v) (reverse-append (x ∷ []) xs)
    ∙ map-append v (reverse xs) (x ∷ [])
    ∙ ap (λ ys. ys ++ v x ∷ []) (map_reverse v xs)
    ∙ sym (reverse-append (v x ∷ []) (map v xs))
