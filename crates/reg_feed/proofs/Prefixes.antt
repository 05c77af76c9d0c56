-- Beginnings of one list.
use Rattle.std.proofs.Common.{◌≡◌, ◌+◌, ◌-◌, ◌≤◌, ◌⊎◌, inl, inr, List, [], ◌∷◌, ◌++◌, length, refl, ap, sym, ◌∙◌, arith, length-append}
use mathlib.Core.List.{IsPrefix}

-- of two beginnings of one list the shorter begins the longer
pub prefix_shorter : {A : Type 0} (xs ys zs : List A) → IsPrefix xs zs → IsPrefix ys zs → length xs ≤ length ys → IsPrefix xs ys
prefix_shorter [] ys zs p q le = (ys, refl)
prefix_shorter (x ∷ xs) [] zs p q le = absurd (omega arith)
prefix_shorter (x ∷ xs) (y ∷ ys) [] p q le = absurd (cc (p.1))
prefix_shorter (x ∷ xs) (y ∷ ys) (z ∷ zs) p q le =
    let heads : x ≡ y = cc (p.1, q.1) in
    let rest = prefix_shorter xs ys zs (p.0, cc (p.1)) (q.0, cc (q.1)) (omega arith) in
    (rest.0, cc (heads, rest.1))

-- a beginning as long as the whole is the whole
pub prefix_whole : {A : Type 0} (xs ys : List A) → IsPrefix xs ys → length ys ≤ length xs → xs ≡ ys
prefix_whole [] [] p le = refl
prefix_whole [] (y ∷ ys) p le = absurd (omega arith)
prefix_whole (x ∷ xs) [] p le = absurd (cc (p.1))
prefix_whole (x ∷ xs) (y ∷ ys) p le =
    let rest = prefix_whole xs ys (p.0, cc (p.1)) (omega arith) in cc (p.1, rest)

pub prefix_length : {A : Type 0} (xs ys : List A) → IsPrefix xs ys → length xs ≤ length ys
prefix_length xs ys p = omega (arith, sym (ap length p.1) ∙ length-append xs p.0)

-- the longer of xs and ys, where ys ends in e and is longer by one
pub next_item : {A : Type 0} (xs ys l zs : List A) (e : A) → (zs ≡ xs) ⊎ (zs ≡ ys) → IsPrefix xs zs
    → IsPrefix ys zs → ys ≡ l ++ e ∷ [] → length ys - 1 ≡ length xs → zs ≡ xs ++ e ∷ []
next_item xs ys l zs e (inl is) p q ends one =
    absurd (omega (arith, prefix_length ys zs q, ap length is, ap length ends, length-append l (e ∷ [])))
next_item xs ys l zs e (inr is) p q ends one =
    let all : zs ≡ l ++ e ∷ [] = is ∙ ends in
    let long : length zs ≡ length l + 1 = ap length all ∙ length-append l (e ∷ []) in
    let in_l : IsPrefix xs l = prefix_shorter xs l zs p (e ∷ [], sym all) (omega (arith, ap length is)) in
    let same : xs ≡ l = prefix_whole xs l in_l (omega (arith, ap length is)) in all ∙ ap (λ w. w ++ e ∷ []) (sym same)
