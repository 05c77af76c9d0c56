-- What is chosen of some items, where one wins against each other.
use Rattle.std.proofs.Common.{◌≡◌, ℕ, ◌≤◌, max, min, Bool, true, false, cond, List, [], ◌∷◌, map}
use Rattle.std.proofs.Common.{Some, None, refl, sym, ap, subst, ◌∙◌, ◌⊎◌, inl, inr, arith}
use Rattle.std.specs.Cmp.{IsTotalOrder}
use Rattle.std.specs.List.{fold, filter, reduce, AllByRecursion}
use Rattle.std.specs.Ordering.{is_lt, ord_max, ordering_reverse}
use Rattle.std.specs.declared.cmp.Ordering.{Ordering}
use Rattle.std.specs.declared.cmp.Ordering.TheVariants.{Less}

-- x is an item of the list
abbrev pub IsIn : {X : Type 0} → X → List X → Type 0
IsIn x [] = ⊥
IsIn x (y ∷ ys) = (y ≡ x) ⊎ IsIn x ys

pub all_filter : {X : Type 0} (p : X → Bool) (P : X → Type 0) (xs : List X)
    → AllByRecursion (λ x. p x ≡ true → P x) xs → AllByRecursion P (filter p xs)
all_filter p P [] h = tt
all_filter p P (x ∷ xs) h =
    let rest = all_filter p P xs h.1 in
    elim (p x)
    as (λ b. p x ≡ b → AllByRecursion P (cond b (x ∷ filter p xs) (filter p xs))) [ true ↦ λ e. (h.0 e, rest) | false ↦ λ e. rest ] refl

pub all_map : {X Y : Type 0} (f : X → Y) (P : Y → Type 0) (xs : List X) → AllByRecursion (λ x. P (f x)) xs → AllByRecursion P (map f xs)
all_map f P [] h = tt
all_map f P (x ∷ xs) h = (h.0, all_map f P xs h.1)

pub in_filter : {X : Type 0} (p : X → Bool) (x : X) (xs : List X) → p x ≡ true → IsIn x xs → IsIn x (filter p xs)
in_filter p x [] h i = i
in_filter {X} p x (y ∷ ys) h (inl same) = subst (λ b. IsIn x (cond b (y ∷ filter p ys) (filter p ys))) (sym (ap p same ∙ h)) (inl same)
in_filter {X} p x (y ∷ ys) h (inr i) =
    elim (p y)
    as (λ b. IsIn x (cond b (y ∷ filter p ys) (filter p ys))) [ true ↦ inr (in_filter p x ys h i) | false ↦ in_filter p x ys h i ]

pub in_map : {X Y : Type 0} (f : X → Y) (x : X) (xs : List X) → IsIn x xs → IsIn (f x) (map f xs)
in_map f x [] i = i
in_map f x (y ∷ ys) (inl same) = inl (ap f same)
in_map f x (y ∷ ys) (inr i) = inr (in_map f x ys i)

-- no item is chosen where there is none
pub reduce_none : {X : Type 0} (f : X → X → X) (xs : List X) → AllByRecursion (λ _. ⊥) xs → reduce f xs ≡ None
reduce_none f [] h = refl
reduce_none f (x ∷ xs) h = absurd h.0

module _ {X : Type 0} (f : X → X → X) (x : X) (P : X → Type 0) (left : (y : X) → P y → f x y ≡ x)
    (right : (y : X) → P y → f y x ≡ x) (closed : (y z : X) → P y → P z → P (f y z)) where
  stays : (ys : List X) → AllByRecursion P ys → fold f x ys ≡ x
  stays [] h = refl
  stays (y ∷ ys) h = ap (λ a. fold f a ys) (left y h.0) ∙ stays ys h.1

  wins : (a : X) (ys : List X) → P a → AllByRecursion P ys → IsIn x ys → fold f a ys ≡ x
  wins a [] p h i = absurd i
  wins a (y ∷ ys) p h (inl same) = ap (λ b. fold f b ys) (ap (f a) same ∙ right a p) ∙ stays ys h.1
  wins a (y ∷ ys) p h (inr i) = wins (f a y) ys (closed a y p h.0) h.1 i

  -- x is chosen where it is among items that it wins against
  pub reduce_wins : (ys : List X) → AllByRecursion P ys → IsIn x ys → reduce f ys ≡ Some x
  reduce_wins [] h i = absurd i
  reduce_wins (y ∷ ys) h (inl same) = ap (λ a. Some (fold f a ys)) same ∙ ap Some (stays ys h.1)
  reduce_wins (y ∷ ys) h (inr i) = ap Some (wins y ys h.0 h.1 i)

module _ {X : Type 0} (cmp : X → X → Ordering) (total : IsTotalOrder cmp) (x : X) where
  -- it is x, or before it
  abbrev pub IsUpTo : X → Type 0
  IsUpTo y = (y ≡ x) ⊎ (cmp y x ≡ Less)

  left : (y : X) → IsUpTo y → ord_max cmp x y ≡ x
  left y (inl same) = elim (is_lt (cmp y x)) as (λ b. cond b x y ≡ x) [ true ↦ refl | false ↦ same ]
  left y (inr less) = ap (λ o. cond (is_lt o) x y) less

  right : (y : X) → IsUpTo y → ord_max cmp y x ≡ x
  right y (inl same) = elim (is_lt (cmp x y)) as (λ b. cond b y x ≡ x) [ true ↦ same | false ↦ refl ]
  right y (inr less) = ap (λ o. cond (is_lt o) y x) (total.antisymm x y ∙ ap ordering_reverse less)

  closed : (y z : X) → IsUpTo y → IsUpTo z → IsUpTo (ord_max cmp y z)
  closed y z p q = elim (is_lt (cmp z y)) as (λ b. IsUpTo (cond b y z)) [ true ↦ p | false ↦ q ]

  -- the greatest item in an order
  pub reduce_greatest : (ys : List X) → AllByRecursion IsUpTo ys → IsIn x ys → reduce (ord_max cmp) ys ≡ Some x
  reduce_greatest = reduce_wins (ord_max cmp) x IsUpTo left right closed

-- the greatest number
pub reduce_max : (x : ℕ) (ys : List ℕ) → AllByRecursion (λ y. y ≤ x) ys → IsIn x ys → reduce max ys ≡ Some x
reduce_max x = reduce_wins max x (λ y. y ≤ x) (λ y h. omega arith) (λ y h. omega arith) (λ y z h k. omega arith)

-- the least number
pub reduce_min : (x : ℕ) (ys : List ℕ) → AllByRecursion (λ y. x ≤ y) ys → IsIn x ys → reduce min ys ≡ Some x
reduce_min x = reduce_wins min x (λ y. x ≤ y) (λ y h. omega arith) (λ y h. omega arith) (λ y z h k. omega arith)
