-- The test, in std's word for distinct elements.
use Rattle.std.proofs.Common.{◌≡◌, ℕ, ◌-◌, ◌≤◌, Bool, true, false, not, ◌&&◌, ◌||◌, List, [], ◌∷◌}
use Rattle.std.proofs.Common.{length, map, take, drop, get_or, bytes_eq, arith, refl, sym, ap, ◌∙◌}
use Rattle.std.proofs.lemmas.Bool.{false≢true, and_parts, or_parts, or_from}
use Rattle.std.proofs.lemmas.List.{take_all}
use Rattle.std.specs.List.{IsDistinct, AllByRecursion, list_any}
use Rattle.named_list.specs.Distinct.{all_distinct}

module _ {X : Type 0} (same : X → X → Bool) where
  none_same : (x : X) (xs : List X) → AllByRecursion (λ y. same x y ≡ false) xs → list_any (same x) xs ≡ false
  none_same x [] h = refl
  none_same x (y ∷ ys) h = or_from _ _ h.0 (none_same x ys h.1)

  each_apart : (x : X) (xs : List X) → list_any (same x) xs ≡ false → AllByRecursion (λ y. same x y ≡ false) xs
  each_apart x [] h = tt
  each_apart x (y ∷ ys) h = let p = or_parts _ _ h in (p.0, each_apart x ys p.1)

  not_true : (b : Bool) → not b ≡ true → b ≡ false
  not_true true h = absurd (false≢true h)
  not_true false h = refl

  pub all_distinct-true : (xs : List X) → IsDistinct same xs → all_distinct same xs ≡ true
  unfolding IsDistinct
  all_distinct-true [] h = refl
  all_distinct-true (x ∷ xs) h = ap (λ b. not b && all_distinct same xs) (none_same x xs h.0) ∙ all_distinct-true xs h.1

  pub IsDistinct-from_true : (xs : List X) → all_distinct same xs ≡ true → IsDistinct same xs
  unfolding IsDistinct
  IsDistinct-from_true [] h = tt
  IsDistinct-from_true (x ∷ xs) h =
      let p = and_parts _ _ h in
      (each_apart x xs (not_true _ p.0), IsDistinct-from_true xs p.1)

-- ---- the first of a list, and the others

list_any-map : {X Y : Type 0} (p : Y → Bool) (f : X → Y) (xs : List X) → list_any p (map f xs) ≡ list_any (λ x. p (f x)) xs
list_any-map p f [] = refl
list_any-map p f (x ∷ xs) = ap (λ b. p (f x) || b) (list_any-map p f xs)

pub all_distinct-first : {X : Type 0} (name : X → List ℕ) (xs : List X) (x : X) → 1 ≤ length xs → x ≡ get_or xs 0 x
    → let rest = take (length xs - 1) (drop 1 xs) in all_distinct bytes_eq (map name xs)
    ≡ (not (list_any (λ y. bytes_eq (name x) (name y)) rest) && all_distinct bytes_eq (map name rest))
all_distinct-first name [] x some is = absurd (omega arith)
all_distinct-first name (y ∷ ys) x some is =
    let whole : take (length (y ∷ ys) - 1) ys ≡ ys = take_all (length (y ∷ ys) - 1) ys (omega arith) in
    ap (λ b. not b && all_distinct bytes_eq (map name ys)) (list_any-map (bytes_eq (name y)) name ys)
    ∙ (λ i. not (list_any (λ z. bytes_eq (name (sym is i)) (name z)) (sym whole i)) && all_distinct bytes_eq (map name (sym whole i)))
