-- What is written piece by piece inside of a JSON string.
use Rattle.std.proofs.Common.{◌≡◌, ◌<◌, ◌+◌, ◌∙◌, ℕ, List, [], ◌∷◌, ◌++◌, Option, Some, None, MatchOption, ◌≢◌, Bor, option_copied, Bool}
use Rattle.std.proofs.Common.{true, false, not, ◌&&◌, nat_eq, nat_le, length, take, drop, get_or, refl, ap, sym, append_assoc}
use Rattle.std.proofs.Common.{append-nil, string_bytes}
use Rattle.std.specs.Fmt.{WritesInCalls}
use Rattle.std.specs.List.{FoldsTo, concat}
use Rattle.std.proofs.lemmas.Bool.{eq-eqb, leb-true}
use Rattle.std.proofs.lemmas.List.{take_more, append_cancel_right}
use Rattle.std.proofs.lemmas.List.Concat.{flat_map-append}
use Rattle.json.specs.Print.{escape, escape_byte}
use Rattle.json.proofs.Printed.Strings.{escape_byte_plain}
use Rattle.reg_lookup.specs.declared.in_string.InString.{InString}

abbrev Escapes : InString → List ℕ → InString → Type 0
Escapes s bs t = string_bytes t.text ≡ string_bytes s.text ++ escape bs

in_turn : (w : InString) (parts : List (List ℕ)) (v : InString) → FoldsTo Escapes w parts v
    → string_bytes v.text ≡ string_bytes w.text ++ escape (concat parts)
in_turn w [] v same = ap (λ (s : InString). string_bytes s.text) (sym same) ∙ sym (append-nil (string_bytes w.text))
in_turn w (x ∷ xs) v steps =
    in_turn steps.0 xs v steps.2
    ∙ ap (λ l. l ++ escape (concat xs)) steps.1
    ∙ append_assoc (string_bytes w.text) (escape x) (escape (concat xs))
    ∙ ap (λ l. string_bytes w.text ++ l) (sym (flat_map-append escape_byte x (concat xs)))

-- pieces that are escaped one after the other are escaped as one
pub escaped_whole : (w : InString) (bs : List ℕ) (v : InString)
    → WritesInCalls Escapes w bs v → string_bytes v.text ≡ string_bytes w.text ++ escape bs
escaped_whole w bs v calls = in_turn w calls.parts v calls.calls ∙ ap (λ l. string_bytes w.text ++ escape l) calls.whole

-- one byte more that stands as it is
pub plain_more : (bs : List ℕ) (i d : ℕ) → i < length bs → escape (take i bs) ≡ take i bs
    → escape_byte (get_or bs i d) ≡ get_or bs i d ∷ [] → escape (take (i + 1) bs) ≡ take (i + 1) bs
plain_more bs i d inside before here =
    ap escape (take_more bs i d inside)
    ∙ flat_map-append escape_byte (take i bs) (get_or bs i d ∷ [])
    ∙ ap (λ l. escape (take i bs) ++ l) (append-nil (escape_byte (get_or bs i d)) ∙ here)
    ∙ ap (λ l. l ++ get_or bs i d ∷ []) before
    ∙ sym (take_more bs i d inside)

and_parts : (a b : Bool) → (a && b) ≡ true → (a ≡ true) × (b ≡ true)
and_parts true b e = (refl, e)
and_parts false b e = cc

differs : (a b : ℕ) → not (nat_eq a b) ≡ true → a ≡ b → ⊥
differs a b e same = let never : false ≡ true = sym (ap not (eq-eqb a b same)) ∙ e in cc

-- a byte that needs no escape
pub plain_byte : (x : ℕ) → ((nat_le 32 x && not (nat_eq x 34)) && not (nat_eq x 92)) ≡ true → escape_byte x ≡ x ∷ []
plain_byte x e =
    let outer = and_parts (nat_le 32 x && not (nat_eq x 34)) (not (nat_eq x 92)) e in
    let inner = and_parts (nat_le 32 x) (not (nat_eq x 34)) outer.0 in
    escape_byte_plain x (differs x 34 inner.1) (differs x 92 outer.1) (leb-true 32 x inner.0)

-- ---- quotes

pub after_quote : (xs ys : List ℕ) → 34 ∷ xs ≡ 34 ∷ ys → xs ≡ ys
after_quote xs ys same = ap (drop 1) same

pub before_quote : (bs text : List ℕ) (r : Option (Bor (List ℕ)))
    → MatchOption r ((front : List ℕ) → bs ≢ front ++ 34 ∷ []) (λ x. bs ≡ x.now ++ 34 ∷ [])
    → bs ≡ text ++ 34 ∷ [] → option_copied r ≡ Some text
before_quote bs text None lacks is = absurd (lacks text is)
before_quote bs text (Some x) has is = ap Some (append_cancel_right x.now text (34 ∷ []) (sym has ∙ is))
