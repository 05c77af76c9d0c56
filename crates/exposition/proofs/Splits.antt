-- Where a list ends whose elements pass a test, and one begins that doesn't.
use Rattle.std.proofs.Common.{◌≡◌, ◌++◌, ◌∷◌, [], ℕ, List, Bool, true, false, ◌&&◌, refl, sym, ap, subst, ◌∙◌, eq-eqb}
use Rattle.std.specs.Prelude.{◌==◌, flat_map}
use Rattle.std.specs.List.{list_all}
use Rattle.std.proofs.lemmas.List.{append_assoc}

pub both_left : (a b : Bool) → (a && b) ≡ true → a ≡ true
both_left true b e = refl
both_left false b e = e

pub both_right : (a b : Bool) → (a && b) ≡ true → b ≡ true
both_right true b e = e
both_right false b e = absurd (cc)

-- two numbers that a test tells apart
pub differ : (m n : ℕ) → (m == n) ≡ false → m ≡ n → ⊥
differ m n apart same = let together : (m == n) ≡ true = eq-eqb m n same in cc

-- nothing, or its first element doesn't pass
abbrev pub Stops : {X : Type 0} → (X → Bool) → List X → Type 0
Stops p [] = Unit {0}
Stops p (x ∷ xs) = p x ≡ false

pub split_same : {X : Type 0} (p : X → Bool) (a b x y : List X) → list_all p a ≡ true → list_all p b ≡ true → Stops p x → Stops p y
    → a ++ x ≡ b ++ y → (a ≡ b) × (x ≡ y)
split_same p [] [] x y pa pb sx sy e = (refl, e)
split_same p [] (d ∷ b) [] y pa pb sx sy e = absurd (cc)
split_same p [] (d ∷ b) (c ∷ x) y pa pb sx sy e =
    let passes : p d ≡ true = both_left (p d) (list_all p b) pb in
    let same : c ≡ d = cc in
    let fails : p d ≡ false = subst (λ t. p t ≡ false) same sx in
    absurd (cc)
split_same p (c ∷ a) [] x [] pa pb sx sy e = absurd (cc)
split_same p (c ∷ a) [] x (d ∷ y) pa pb sx sy e =
    let passes : p c ≡ true = both_left (p c) (list_all p a) pa in
    let same : d ≡ c = cc in
    let fails : p c ≡ false = subst (λ t. p t ≡ false) same sy in
    absurd (cc)
split_same p (c ∷ a) (d ∷ b) x y pa pb sx sy e =
    let rest : a ++ x ≡ b ++ y = cc in
    let head : c ≡ d = cc in
    let (same, more) = split_same p a b x y (both_right (p c) (list_all p a) pa) (both_right (p d) (list_all p b) pb) sx sy rest in
    (cc, more)

pub cons_same : {X : Type 0} {x y : X} {xs ys : List X} → x ∷ xs ≡ y ∷ ys → (x ≡ y) × (xs ≡ ys)
cons_same e = (cc, cc)

-- pieces with a comma before each are read back up to a closing brace, where each piece is
pub pieces_read : {X : Type 0} (f : X → List ℕ) (p : X → Bool)
    (reads : (l m : X) (x y : List ℕ) → p l ≡ true → p m ≡ true → f l ++ x ≡ f m ++ y → (l ≡ m) × (x ≡ y)) (ls ms : List X) (x y : List ℕ)
    → list_all p ls ≡ true → list_all p ms ≡ true
    → flat_map (λ l. 44 ∷ f l) ls ++ (125 ∷ x) ≡ flat_map (λ l. 44 ∷ f l) ms ++ (125 ∷ y) → (ls ≡ ms) × (x ≡ y)
pieces_read f p reads [] [] x y q r e = (refl, (cons_same e).1)
pieces_read f p reads [] (m ∷ ms) x y q r e = absurd (differ 125 44 refl (cons_same e).0)
pieces_read f p reads (l ∷ ls) [] x y q r e = absurd (differ 44 125 refl (cons_same e).0)
pieces_read f p reads (l ∷ ls) (m ∷ ms) x y q r e =
    let both = sym (append_assoc (f l) (flat_map (λ l. 44 ∷ f l) ls) (125 ∷ x)) ∙ (cons_same e).1
    ∙ append_assoc (f m) (flat_map (λ l. 44 ∷ f l) ms) (125 ∷ y) in
    let (heads, tails) = reads l m _ _ (both_left (p l) (list_all p ls) q) (both_left (p m) (list_all p ms) r) both in
    let (rests, more) = pieces_read f p reads ls ms x y (both_right (p l) (list_all p ls) q) (both_right (p m) (list_all p ms) r) tails in
    (λ i. heads i ∷ rests i, more)

-- pieces in braces are read back up to a space
pub braces_read : {X : Type 0} (f : X → List ℕ) (p : X → Bool)
    (reads : (l m : X) (x y : List ℕ) → p l ≡ true → p m ≡ true → f l ++ x ≡ f m ++ y → (l ≡ m) × (x ≡ y)) (l m : X) (ls ms : List X)
    (x y : List ℕ) → (p l && list_all p ls) ≡ true → (p m && list_all p ms) ≡ true
    → (f l ++ (flat_map (λ l. 44 ∷ f l) ls ++ (125 ∷ []))) ++ (32 ∷ x) ≡ (f m ++ (flat_map (λ l. 44 ∷ f l) ms ++ (125 ∷ []))) ++ (32 ∷ y)
    → (l ∷ ls ≡ m ∷ ms) × (x ≡ y)
braces_read {X} f p reads l m ls ms x y q r e =
    let (heads, tails) = reads l m _ _ (both_left (p l) (list_all p ls) q) (both_left (p m) (list_all p ms) r)
    (sym (parts l ls x) ∙ e ∙ parts m ms y) in
    let (rests, more) = pieces_read f p reads ls ms (32 ∷ x) (32 ∷ y) (both_right (p l) (list_all p ls) q)
    (both_right (p m) (list_all p ms) r) tails in
    (λ i. heads i ∷ rests i, (cons_same more).1)
  where
    parts : (k : X) (ks : List X) (z : List ℕ)
        → (f k ++ (flat_map (λ l. 44 ∷ f l) ks ++ (125 ∷ []))) ++ (32 ∷ z) ≡ f k ++ (flat_map (λ l. 44 ∷ f l) ks ++ (125 ∷ 32 ∷ z))
    parts k ks z =
        append_assoc (f k) (flat_map (λ l. 44 ∷ f l) ks ++ (125 ∷ [])) (32 ∷ z)
        ∙ ap (λ t. f k ++ t) (append_assoc (flat_map (λ l. 44 ∷ f l) ks) (125 ∷ []) (32 ∷ z))
