-- What is chosen among the elements of a list has what all of them have.
use Rattle.std.proofs.Common.{◌≡◌, ◌⊎◌, inl, inr, ⊎_elim, ℕ, ◌≤◌, min, max, Bool, true, false, cond, nat_le}
use Rattle.std.proofs.Common.{List, [], ◌∷◌, map, fold, Some, None, All, find, refl, sym, subst, ◌∙◌, arith}
use Rattle.std.proofs.lemmas.Bool.{false≢true}
use Rattle.std.proofs.lemmas.List.Elements.{All-nil, All-cons, All-head, All-tail}
use Rattle.std.specs.List.{filter, reduce}
use Rattle.std.specs.Ordering.{is_lt, ord_max}
use Rattle.std.specs.declared.cmp.Ordering.{Ordering}

inside : {X : Type 0} (a b : X) → Some a ≡ Some b → a ≡ b
inside a b same = cc

module _ {X : Type 0} (P : X → Type 0) where
  module _ (f : X → X → X) (picks : (a b : X) → (f a b ≡ a) ⊎ (f a b ≡ b)) where
    fold_has : (x : X) (xs : List X) → P x → All P xs → P (fold f x xs)
    fold_has x [] p all = p
    fold_has x (y ∷ ys) p all =
        fold_has (f x y) ys (⊎_elim (λ e. subst P (sym e) p) (λ e. subst P (sym e) (All-head P y ys all)) (picks x y)) (All-tail P y ys all)

    pub reduce_has : (xs : List X) (x : X) → All P xs → reduce f xs ≡ Some x → P x
    reduce_has [] x all is = absurd (cc)
    reduce_has (y ∷ ys) x all is = subst P (inside _ x is) (fold_has y ys (All-head P y ys all) (All-tail P y ys all))

  pub find_has : (p : X → Bool) (xs : List X) (x : X) → All P xs → find p xs ≡ Some x → P x
  find_has p [] x all is = absurd (cc)
  find_has p (y ∷ ys) x all is =
      elim (p y) as (λ b. cond b (Some y) (find p ys) ≡ Some x → P x) [
        | true ↦ λ same. subst P (inside y x same) (All-head P y ys all)
        | false ↦ λ rest. find_has p ys x (All-tail P y ys all) rest
      ] is

module _ {X : Type 0} (p : X → Bool) where
  -- what is found passes, and where nothing is found nothing passes
  pub find_passes : (xs : List X) (x : X) → find p xs ≡ Some x → p x ≡ true
  find_passes [] x is = absurd (cc)
  find_passes (y ∷ ys) x is =
      elim (p y) as (λ b. p y ≡ b → cond b (Some y) (find p ys) ≡ Some x → p x ≡ true) [
        | true ↦ λ passes same. subst (λ z. p z ≡ true) (inside y x same) passes
        | false ↦ λ _ rest. find_passes ys x rest
      ] refl is

  pub find_none : (xs : List X) → find p xs ≡ None → All (λ x. p x ≡ false) xs
  find_none [] none = All-nil (λ x. p x ≡ false)
  find_none (y ∷ ys) none =
      elim (p y) as (λ b. p y ≡ b → cond b (Some y) (find p ys) ≡ None → All (λ x. p x ≡ false) (y ∷ ys)) [
        | true ↦ λ _ e. absurd (cc)
        | false ↦ λ is e. All-cons (λ x. p x ≡ false) y ys is (find_none ys e)
      ] refl none

  -- what all elements have that pass
  pub from_filter : (P : X → Type 0) (xs : List X) → All P (filter p xs) → All (λ x. p x ≡ true → P x) xs
  from_filter P [] all = All-nil (λ x. p x ≡ true → P x)
  from_filter P (x ∷ xs) all =
      elim (p x) as (λ b. p x ≡ b → All P (cond b (x ∷ filter p xs) (filter p xs)) → All (λ x. p x ≡ true → P x) (x ∷ xs)) [
        | true ↦ λ _ all.
            All-cons (λ x. p x ≡ true → P x) x xs (λ _. All-head P x (filter p xs) all) (from_filter P xs (All-tail P x (filter p xs) all))
        | false ↦ λ is all. All-cons (λ x. p x ≡ true → P x) x xs (λ passes. absurd (false≢true (sym is ∙ passes))) (from_filter P xs all)
      ] refl all

module _ {X : Type 0} (f : X → X → X) where
  -- where nothing is chosen, nothing passes
  pub none_passes : (p : X → Bool) (xs : List X) → reduce f (filter p xs) ≡ None → All (λ x. p x ≡ false) xs
  none_passes p [] none = All-nil (λ x. p x ≡ false)
  none_passes p (x ∷ xs) none =
      elim (p x) as (λ b. p x ≡ b → reduce f (cond b (x ∷ filter p xs) (filter p xs)) ≡ None → All (λ x. p x ≡ false) (x ∷ xs)) [
        | true ↦ λ _ e. absurd (cc)
        | false ↦ λ is e. All-cons (λ x. p x ≡ false) x xs is (none_passes p xs e)
      ] refl none

  pub nothing_there : {Y : Type 0} (g : Y → X) (ys : List Y) → reduce f (map g ys) ≡ None → All (λ _. ⊥) ys
  nothing_there g [] none = All-nil (λ _. ⊥)
  nothing_there g (y ∷ ys) none = absurd (cc)

pub ord_max-picks : {X : Type 0} (cmp : X → X → Ordering) (a b : X) → (ord_max cmp a b ≡ a) ⊎ (ord_max cmp a b ≡ b)
ord_max-picks cmp a b = elim (is_lt (cmp b a)) as (λ c. (cond c a b ≡ a) ⊎ (cond c a b ≡ b)) [ true ↦ inl refl | false ↦ inr refl ]

pub min-picks : (a b : ℕ) → (min a b ≡ a) ⊎ (min a b ≡ b)
min-picks a b =
    elim (nat_le a b)
    as (λ c. nat_le a b ≡ c → (min a b ≡ a) ⊎ (min a b ≡ b)) [ true ↦ λ e. inl (grind arith) | false ↦ λ e. inr (grind arith) ] refl

pub max-picks : (a b : ℕ) → (max a b ≡ a) ⊎ (max a b ≡ b)
max-picks a b =
    elim (nat_le a b)
    as (λ c. nat_le a b ≡ c → (max a b ≡ a) ⊎ (max a b ≡ b)) [ true ↦ λ e. inr (grind arith) | false ↦ λ e. inl (grind arith) ] refl

at_most_fold : (a : ℕ) (xs : List ℕ) → a ≤ fold max a xs
at_most_fold a [] = omega arith
at_most_fold a (y ∷ ys) = let h = at_most_fold (max a y) ys in omega (arith, h)

-- no number is above the greatest
up_to_fold : (a : ℕ) (xs : List ℕ) → All (λ x. x ≤ fold max a xs) xs
up_to_fold a [] = All-nil (λ x. x ≤ a)
up_to_fold a (y ∷ ys) =
    let h = at_most_fold (max a y) ys in
    All-cons (λ x. x ≤ fold max (max a y) ys) y ys (omega (arith, h)) (up_to_fold (max a y) ys)

up_to_greatest : (xs : List ℕ) (m : ℕ) → reduce max xs ≡ Some m → All (λ x. x ≤ m) xs
up_to_greatest [] m is = All-nil (λ x. x ≤ m)
up_to_greatest (x ∷ xs) m is =
    subst (λ n. All (λ x. x ≤ n) (x ∷ xs)) (inside _ m is) (All-cons (λ y. y ≤ fold max x xs) x xs (at_most_fold x xs) (up_to_fold x xs))

from_map : {X Y : Type 0} (P : X → Type 0) (f : Y → X) (ys : List Y) → All P (map f ys) → All (λ y. P (f y)) ys
from_map P f [] all = All-nil (λ y. P (f y))
from_map P f (y ∷ ys) all =
    All-cons (λ y. P (f y)) y ys (All-head P (f y) (map f ys) all) (from_map P f ys (All-tail P (f y) (map f ys) all))

pub up_to_greatest_of : {Y : Type 0} (f : Y → ℕ) (ys : List Y) (m : ℕ) → reduce max (map f ys) ≡ Some m → All (λ y. f y ≤ m) ys
up_to_greatest_of f ys m is = from_map (λ x. x ≤ m) f ys (up_to_greatest (map f ys) m is)
