-- The laws of ids that have two schemas.
use Rattle.std.proofs.Common.{◌≡◌, ℕ, ◌≤◌, ◌<◌, true, not, min, ◌⊎◌, inl, inr, ⊎_elim, List}
use Rattle.std.proofs.Common.{[], ◌∷◌, map, Some, None, refl, sym, subst, ◌∙◌, arith}
use Rattle.std.proofs.lemmas.Bool.{cases_lt}
use Rattle.std.proofs.lemmas.List.Elements.{All-contains, All-contains_itself, All-from_recursion, recursion_from_All}
use Rattle.std.specs.List.{filter, fold, reduce, AllByRecursion, Contains}
use Rattle.std.specs.Prelude.{bytes_eq}
use Rattle.reg_entries.specs.Sought.{shares_its_id, two_schemas}
use Rattle.reg_entries.specs.TwoSchemas.{HasTwoSchemas, NoneIsOneTextEach, SomeIsLeastOfTwo}
use Rattle.reg_entries.specs.declared.entry.Entry.{Entry}
use Rattle.reg_entries.proofs.Chosen.{IsIn, all_filter, all_map, in_filter, in_map, reduce_min, reduce_none}
use Rattle.reg_entries.proofs.Doubled.{all_in, apart, one_text, out_of_filter, reduce_has, reduce_some, shared, shares}
use Rattle.reg_entries.proofs.Listed.{by_bool}

-- what is true of each item that is in the list
pub all_from : {X : Type 0} (P : X → Type 0) (xs : List X) → ((x : X) → IsIn x xs → P x) → AllByRecursion P xs
all_from P [] h = tt
all_from P (x ∷ xs) h = (h x (inl refl), all_from P xs (λ y i. h y (inr i)))

in_contains : {X : Type 0} (xs : List X) (x : X) → Contains xs x → IsIn x xs
in_contains xs x h = All-contains (λ y. IsIn y xs) xs x (All-from_recursion (λ y. IsIn y xs) xs (all_from (λ y. IsIn y xs) xs (λ y i. i))) h

contains_in : {X : Type 0} (xs : List X) (x : X) → IsIn x xs → Contains xs x
contains_in xs x i = all_in (Contains xs) x xs (recursion_from_All (Contains xs) xs (All-contains_itself xs)) i

out_of_map : {X Y : Type 0} (f : X → Y) (y : Y) (xs : List X) → IsIn y (map f xs) → (x : X) × (IsIn x xs × (f x ≡ y))
out_of_map f y [] i = absurd i
out_of_map f y (x ∷ xs) (inl same) = (x, (inl refl, same))
out_of_map f y (x ∷ xs) (inr i) = let rest = out_of_map f y xs i in (rest.0, (inr rest.1.0, rest.1.1))

smaller_is : (a b : ℕ) → (min a b ≡ a) ⊎ (min a b ≡ b)
smaller_is a b = ⊎_elim (λ h. inl (left h)) (λ h. inr (right h)) (cases_lt a b)
  where
    left : a < b → min a b ≡ a
    left h = omega arith

    right : b ≤ a → min a b ≡ b
    right h = omega arith

-- the least number is one of them
least_in : (xs : List ℕ) (x : ℕ) → reduce min xs ≡ Some x → IsIn x xs
least_in xs x h =
    reduce_has min (λ y. IsIn y xs)
    (λ y z p q. ⊎_elim (λ e. subst (λ w. IsIn w xs) (sym e) p) (λ e. subst (λ w. IsIn w xs) (sym e) q) (smaller_is y z)) xs x
    (all_from (λ y. IsIn y xs) xs (λ y i. i)) h

fold_below : (a : ℕ) (xs : List ℕ) → (fold min a xs ≤ a) × AllByRecursion (λ y. fold min a xs ≤ y) xs
fold_below a [] = (omega arith, tt)
fold_below a (x ∷ xs) =
    let rest = fold_below (min a x) xs in
    (below_left (fold min (min a x) xs) rest.0, (below_right (fold min (min a x) xs) rest.0, rest.1))
  where
    below_left : (r : ℕ) → r ≤ min a x → r ≤ a
    below_left r h = omega arith

    below_right : (r : ℕ) → r ≤ min a x → r ≤ x
    below_right r h = omega arith

-- and none is less
least_below : (xs : List ℕ) (x : ℕ) → reduce min xs ≡ Some x → (y : ℕ) → IsIn y xs → x ≤ y
least_below [] x h y i = absurd i
least_below (z ∷ zs) x h y i =
    let low = fold_below z zs in
    subst (λ w. w ≤ y) (inside h) (all_in (λ y. fold min z zs ≤ y) y (z ∷ zs) low i)
  where
    inside : Some (fold min z zs) ≡ Some x → fold min z zs ≡ x
    inside e = cc

module _ (es : List Entry) where
  -- an entry that shares its id gives the id two schemas
  two_of_shared : (e : Entry) → IsIn e es → shares_its_id es e ≡ true → HasTwoSchemas es e.id
  two_of_shared e i h = let o = shared es e h in (o.0, e, contains_in es o.0 o.1.0, contains_in es e i, o.1.1, refl, o.1.2)

  -- and the other way round
  shared_of_two : (id : ℕ) → HasTwoSchemas es id → IsIn id (map (λ e. e.id) (filter (shares_its_id es) es))
  shared_of_two id h =
      let e = h.0 in
      let f = h.1 in
      subst (λ n. IsIn n (map (λ e. e.id) (filter (shares_its_id es) es))) h.4
      (in_map (λ e. e.id) e (filter (shares_its_id es) es)
      (in_filter (shares_its_id es) e es
      (shares es e f (in_contains es f h.3) (h.5 ∙ sym h.4) (λ same. h.6 (sym same))) (in_contains es e h.2)))

pub none_is_one_text_each : NoneIsOneTextEach
none_is_one_text_each es = (to, back)
  where
    to : two_schemas es ≡ None → (e f : Entry) → Contains es e → Contains es f → e.id ≡ f.id → e.normal ≡ f.normal
    to h e f has_e has_f ids =
        by_bool (not (bytes_eq e.normal f.normal))
        (λ differs.
        absurd (
        reduce_some min f.id _ (
        in_map (λ e. e.id) f (filter (shares_its_id es) es)
        (in_filter (shares_its_id es) f es (shares_by e f has_e ids differs) (in_contains es f has_f))) h))
        (one_text e.normal f.normal)
      where
        shares_by : (e f : Entry) → Contains es e → e.id ≡ f.id → not (bytes_eq e.normal f.normal) ≡ true → shares_its_id es f ≡ true
        shares_by e f has_e ids differs = shares es f e (in_contains es e has_e) ids (apart e.normal f.normal differs)

    back : ((e f : Entry) → Contains es e → Contains es f → e.id ≡ f.id → e.normal ≡ f.normal) → two_schemas es ≡ None
    back one =
        reduce_none _ _ (all_map (λ e. e.id) (λ _. ⊥) (filter (shares_its_id es) es)
        (all_filter (shares_its_id es) (λ _. ⊥) es
        (all_from (λ e. shares_its_id es e ≡ true → ⊥) es
        (λ e i h. let o = shared es e h in o.1.2 (one o.0 e (contains_in es o.0 o.1.0) (contains_in es e i) o.1.1)))))

pub some_is_least_of_two : SomeIsLeastOfTwo
some_is_least_of_two es id = (to, back)
  where
    to : two_schemas es ≡ Some id → HasTwoSchemas es id × ((i : ℕ) → HasTwoSchemas es i → id ≤ i)
    to h =
        let at = out_of_map (λ e. e.id) id (filter (shares_its_id es) es) (least_in _ id h) in
        let own = out_of_filter (shares_its_id es) at.0 es at.1.0 in
        (subst (HasTwoSchemas es) at.1.1 (two_of_shared es at.0 own.1 own.0), λ i two. least_below _ id h i (shared_of_two es i two))

    back : HasTwoSchemas es id × ((i : ℕ) → HasTwoSchemas es i → id ≤ i) → two_schemas es ≡ Some id
    back h =
        reduce_min id _
        (all_map (λ e. e.id) (λ n. id ≤ n) (filter (shares_its_id es) es)
        (all_filter (shares_its_id es) (λ e. id ≤ e.id) es
        (all_from (λ e. shares_its_id es e ≡ true → id ≤ e.id) es (λ e i shares. h.1 e.id (two_of_shared es e i shares)))))
        (shared_of_two es id h.0)
