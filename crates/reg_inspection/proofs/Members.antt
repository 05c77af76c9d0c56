-- The items of lists.
use Rattle.std.proofs.Common.{◌≡◌, Bool, true, false, cond, ◌||◌, inl, inr, ◌⊎◌, ⊎_elim, List, [], ◌∷◌, map, refl, sym, ap, subst, ◌∙◌}
use Rattle.std.proofs.lemmas.Bool.{false≢true}
use Rattle.std.proofs.lemmas.List.Elements.{All-contains, All-contains_itself, All-from_recursion, recursion_from_All}
use Rattle.std.specs.List.{filter, list_any, AllByRecursion, Contains}

-- x is an item of the list
abbrev pub IsIn : {X : Type 0} → X → List X → Type 0
IsIn x [] = ⊥
IsIn x (y ∷ ys) = (y ≡ x) ⊎ IsIn x ys

pub by_bool : (b : Bool) {X : Type 0} → (b ≡ true → X) → (b ≡ false → X) → X
by_bool true f g = f refl
by_bool false f g = g refl

pub same_test : (a b : Bool) → (a ≡ true → b ≡ true) → (b ≡ true → a ≡ true) → a ≡ b
same_test true b f g = sym (f refl)
same_test false true f g = g refl
same_test false false f g = refl

all_from : {X : Type 0} (P : X → Type 0) (xs : List X) → ((x : X) → IsIn x xs → P x) → AllByRecursion P xs
all_from P [] h = tt
all_from P (x ∷ xs) h = (h x (inl refl), all_from P xs (λ y i. h y (inr i)))

all_in : {X : Type 0} (P : X → Type 0) (x : X) (xs : List X) → AllByRecursion P xs → IsIn x xs → P x
all_in P x [] h i = absurd i
all_in P x (y ∷ ys) h (inl same) = subst P same h.0
all_in P x (y ∷ ys) h (inr i) = all_in P x ys h.1 i

pub in_contains : {X : Type 0} (xs : List X) (x : X) → Contains xs x → IsIn x xs
in_contains xs x h = All-contains (λ y. IsIn y xs) xs x (All-from_recursion (λ y. IsIn y xs) xs (all_from (λ y. IsIn y xs) xs (λ y i. i))) h

pub contains_in : {X : Type 0} (xs : List X) (x : X) → IsIn x xs → Contains xs x
contains_in xs x i = all_in (Contains xs) x xs (recursion_from_All (Contains xs) xs (All-contains_itself xs)) i

pub in_map : {X Y : Type 0} (f : X → Y) (x : X) (xs : List X) → IsIn x xs → IsIn (f x) (map f xs)
in_map f x [] i = i
in_map f x (y ∷ ys) (inl same) = inl (ap f same)
in_map f x (y ∷ ys) (inr i) = inr (in_map f x ys i)

pub out_of_map : {X Y : Type 0} (f : X → Y) (y : Y) (xs : List X) → IsIn y (map f xs) → (x : X) × (IsIn x xs × (f x ≡ y))
out_of_map f y [] i = absurd i
out_of_map f y (x ∷ xs) (inl same) = (x, (inl refl, same))
out_of_map f y (x ∷ xs) (inr i) = let rest = out_of_map f y xs i in (rest.0, (inr rest.1.0, rest.1.1))

module _ {X : Type 0} (p : X → Bool) where
  pub in_filter : (x : X) (xs : List X) → p x ≡ true → IsIn x xs → IsIn x (filter p xs)
  in_filter x [] h i = i
  in_filter x (y ∷ ys) h (inl same) = subst (λ b. IsIn x (cond b (y ∷ filter p ys) (filter p ys))) (sym (ap p same ∙ h)) (inl same)
  in_filter x (y ∷ ys) h (inr i) =
      elim (p y) as (λ b. IsIn x (cond b (y ∷ filter p ys) (filter p ys))) [ true ↦ inr (in_filter x ys h i) | false ↦ in_filter x ys h i ]

  pub out_of_filter : (x : X) (xs : List X) → IsIn x (filter p xs) → (p x ≡ true) × IsIn x xs
  out_of_filter x [] i = absurd i
  out_of_filter x (y ∷ ys) i =
      let rest : IsIn x (filter p ys) → (p x ≡ true) × IsIn x ys = λ j. out_of_filter x ys j in
      elim (p y) as (λ b. p y ≡ b → IsIn x (cond b (y ∷ filter p ys) (filter p ys)) → (p x ≡ true) × IsIn x (y ∷ ys)) [
        | true ↦ λ is j. ⊎_elim (λ same. (sym (ap p same) ∙ is, inl same)) (λ k. let r = rest k in (r.0, inr r.1)) j
        | false ↦ λ isnt j. let r = rest j in (r.0, inr r.1)
      ] refl i

  pub any_in : (x : X) (xs : List X) → p x ≡ true → IsIn x xs → list_any p xs ≡ true
  any_in x [] h i = absurd i
  any_in x (y ∷ ys) h (inl same) = ap (λ b. b || list_any p ys) (ap p same ∙ h)
  any_in x (y ∷ ys) h (inr i) = ap (λ b. p y || b) (any_in x ys h i) ∙ either (p y)
    where
      either : (b : Bool) → (b || true) ≡ true
      either true = refl
      either false = refl

  pub any_found : (xs : List X) → list_any p xs ≡ true → (x : X) × (IsIn x xs × (p x ≡ true))
  any_found [] h = absurd (false≢true h)
  any_found (y ∷ ys) h =
      by_bool (p y) (λ is. (y, (inl refl, is)))
      (λ isnt. let rest = any_found ys (sym (ap (λ b. b || list_any p ys) isnt) ∙ h) in (rest.0, (inr rest.1.0, rest.1.1)))
