-- An escaped text is read back.
use Rattle.std.proofs.Common.{◌≡◌, ◌++◌, ◌∷◌, [], ℕ, List, Bool, true, false, cond, refl, sym, ap, subst, ◌∙◌, eqb-true}
use Rattle.std.specs.Prelude.{◌==◌}
use Rattle.std.proofs.lemmas.List.{append_assoc}
use Rattle.exposition.specs.Escapes.{escaped, escaped_byte}

-- what ends a text in quotes, or outside of them
abbrev pub end_of : Bool → ℕ
end_of true = 34
end_of false = 10

abbrev put : ℕ → List ℕ × List ℕ → List ℕ × List ℕ
put c r = (c ∷ r.0, r.1)

-- the text up to its end, and what follows that; behind a backslash, or not
abbrev read : Bool → Bool → List ℕ → List ℕ × List ℕ
read q behind [] = ([], [])
read q true (c ∷ cs) = put (cond (c == 110) 10 c) (read q false cs)
read q false (c ∷ cs) = cond (c == 92) (read q true cs) (cond (c == end_of q) ([], cs) (put c (read q false cs)))

step : (q : Bool) (b : ℕ) (t : List ℕ) → read q false (escaped_byte q b ++ t) ≡ put b (read q false t)
step q b t = go_slash (b == 92) refl
  where
    go_quote : (x : Bool) → (b == 92) ≡ false → (b == 10) ≡ false → (b == 34) ≡ x
        → read true false (escaped_byte true b ++ t) ≡ put b (read true false t)
    go_quote true e92 e10 e = subst (λ c. read true false (escaped_byte true c ++ t) ≡ put c (read true false t)) (sym (eqb-true b 34 e)) refl
    go_quote false e92 e10 e = rw (e92, e10, e, e92, e) refl

    go_kind : (k : Bool) → (b == 92) ≡ false → (b == 10) ≡ false → read k false (escaped_byte k b ++ t) ≡ put b (read k false t)
    go_kind true e92 e10 = go_quote (b == 34) e92 e10 refl
    go_kind false e92 e10 = rw (e92, e10, e92, e10) refl

    go_feed : (x : Bool) → (b == 92) ≡ false → (b == 10) ≡ x → read q false (escaped_byte q b ++ t) ≡ put b (read q false t)
    go_feed true e92 e = subst (λ c. read q false (escaped_byte q c ++ t) ≡ put c (read q false t)) (sym (eqb-true b 10 e)) refl
    go_feed false e92 e = go_kind q e92 e

    go_slash : (x : Bool) → (b == 92) ≡ x → read q false (escaped_byte q b ++ t) ≡ put b (read q false t)
    go_slash true e = subst (λ c. read q false (escaped_byte q c ++ t) ≡ put c (read q false t)) (sym (eqb-true b 92 e)) refl
    go_slash false e = go_feed (b == 10) e refl

read_back : (q : Bool) (text rest : List ℕ) → read q false (escaped q text ++ (end_of q ∷ rest)) ≡ (text, rest)
read_back true [] rest = refl
read_back false [] rest = refl
read_back q (b ∷ bs) rest =
    ap (read q false) (append_assoc (escaped_byte q b) (escaped q bs) (end_of q ∷ rest))
    ∙ step q b (escaped q bs ++ (end_of q ∷ rest))
    ∙ ap (put b) (read_back q bs rest)

pub escaped_same : (q : Bool) (v w x y : List ℕ) → escaped q v ++ (end_of q ∷ x) ≡ escaped q w ++ (end_of q ∷ y) → (v ≡ w) × (x ≡ y)
escaped_same q v w x y e =
    let same = sym (read_back q v x) ∙ ap (read q false) e ∙ read_back q w y in
    (ap (λ r. r.0) same, ap (λ r. r.1) same)
