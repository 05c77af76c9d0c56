-- The pair that is judged last, and whether a judge has it.
use Rattle.std.proofs.Common.{◌≡◌, ◌++◌, ℕ, Bool, List, [], ◌∷◌, true, false, refl, sym, ap, subst, ◌∙◌, inl, inr, ◌&&◌, ◌||◌}
use Rattle.std.specs.Prelude.{bytes_eq}
use Rattle.std.proofs.lemmas.Slice.Eq.{bytes_eq-Decides}
use Rattle.reg_judge.specs.Judge.{TextPair, AreJudged, UsesInTurn, has_pair, is_pair, used, used_all}
use Rattle.reg_judge.specs.LastJudged.{HasLastJudged}

-- no other pairs are judged
one_judged : (ps js ks : List TextPair) → AreJudged ps js → AreJudged ps ks → js ≡ ks
one_judged [] js ks a b = a ∙ sym b
one_judged (p ∷ ps) js ks (r, s, inl (c, a)) (q, t, inl (d, b)) = s ∙ ap (λ rest. p ∷ rest) (one_judged ps r q a b) ∙ sym t
one_judged (p ∷ ps) js ks (r, s, inl (c, a)) (q, t, inr (never, b)) = absurd (never c)
one_judged (p ∷ ps) js ks (r, s, inr (never, a)) (q, t, inl (c, b)) = absurd (never c)
one_judged (p ∷ ps) js ks (r, s, inr (never, a)) (q, t, inr (neither, b)) = s ∙ ap (λ rest. p ∷ rest) (a ∙ sym b) ∙ sym t

-- the pair that is used last goes first
used_last : (capacity : ℕ) (ps : List TextPair) (p : TextPair) (pairs : List TextPair)
    → (rest : List TextPair) × (used_all capacity (ps ++ p ∷ []) pairs ≡ p ∷ rest)
used_last capacity [] p pairs = (_, refl)
used_last capacity (q ∷ ps) p pairs = used_last capacity ps p (used capacity q pairs)

both_hold : (a b : Bool) → a ≡ true → b ≡ true → (a && b) ≡ true
both_hold true b h k = k
both_hold false b h k = cc

or_holds : (a b : Bool) → a ≡ true → (a || b) ≡ true
or_holds true b h = refl
or_holds false b h = cc

has_first : (p : TextPair) (rest : List TextPair) → has_pair (p ∷ rest) p ≡ true
has_first p rest =
    or_holds (is_pair p p) (has_pair rest p)
    (both_hold (bytes_eq p.0 p.0) (bytes_eq p.1 p.1) ((bytes_eq-Decides p.0 p.0).1 refl) ((bytes_eq-Decides p.1 p.1).1 refl))

-- where each was kept, they were used one after the other
all_used : (capacity : ℕ) (ps before after : List TextPair) → UsesInTurn capacity ps before after true → after ≡ used_all capacity ps before
all_used capacity [] before after u = u.0
all_used capacity (p ∷ ps) before after (inl u) = all_used capacity ps (used capacity p before) after u
all_used capacity (p ∷ ps) before after (inr none) = absurd (cc (none.1))

pub has_last : HasLastJudged
has_last capacity required before after last (judged, are, is) (ps, also) =
    let end = used_last capacity ps last before in
    let same : after ≡ last ∷ end.0 =
    all_used capacity judged before after is ∙ ap (λ js. used_all capacity js before) (one_judged required judged (ps ++ last ∷ []) are also) ∙ end.1 in
    subst (λ pairs. has_pair pairs last ≡ true) (sym same) (has_first last end.0)
