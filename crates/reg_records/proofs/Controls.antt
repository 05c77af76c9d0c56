-- What is written holds no control character, so no TAB and no LF.
use Rattle.std.proofs.Common.{◌≡◌, ℕ, zero, suc, ◌≤◌, ◌<◌, ◌^◌, ◌==◌, Bool, true, ◌&&◌, nat_le, List}
use Rattle.std.proofs.Common.{[], ◌∷◌, ◌++◌, length, get_or, decimal, inl, inr, refl, ◌∙◌, arith}
use Rattle.std.specs.List.{list_all}
use Rattle.std.proofs.lemmas.Bool.{and_parts, and_from, cases_eq, cases_lt, leb-true, le-leb, ne_eqb, not_from_false}
use Rattle.std.proofs.lemmas.List.Folds.{list_all-append}
use Rattle.std.proofs.lemmas.Fmt.{decimal_is_IsNumeral}
use Rattle.std.proofs.lemmas.Str.Parse.{digit_at}
use Rattle.json.specs.Print.{escape_byte, escape, quoted}
use Rattle.json.proofs.Printed.Strings.{escape_byte_plain}
use Rattle.reg_records.specs.Line.{is_free_of}

-- no control character
abbrev pub is_shown : ℕ → Bool
is_shown b = nat_le 32 b

abbrev pub are_shown : List ℕ → Bool
are_shown = list_all is_shown

pub are_shown-append : (xs ys : List ℕ) → are_shown xs ≡ true → are_shown ys ≡ true → are_shown (xs ++ ys) ≡ true
are_shown-append xs ys h k = list_all-append is_shown xs ys ∙ rw (h, k)

-- the escapes of the bytes below n are shown
abbrev escapes_below : ℕ → Bool
escapes_below zero = true
escapes_below (suc n) = are_shown (escape_byte n) && escapes_below n

escape_below : (n : ℕ) → escapes_below n ≡ true → (x : ℕ) → x < n → are_shown (escape_byte x) ≡ true
escape_below zero e x h = absurd (omega arith)
escape_below (suc n) e x h =
    let p = and_parts _ _ e in
    elim (cases_eq x n) [ inl same ↦ rw same p.0 | inr other ↦ escape_below n p.1 x (omega arith) ]

low_escapes : escapes_below 128 ≡ true
unfolding escape_byte
low_escapes = refl

one_shown : (x : ℕ) → 32 ≤ x → are_shown (x ∷ []) ≡ true
one_shown x h = rw (le-leb 32 x h)

are_shown-escape_byte : (x : ℕ) → are_shown (escape_byte x) ≡ true
are_shown-escape_byte x = elim (cases_lt x 128) [
  | inl low ↦ escape_below 128 low_escapes x low
  | inr high ↦ rw (escape_byte_plain x (λ e. omega arith) (λ e. omega arith) (omega arith)) (one_shown x (omega arith))
]

are_shown-escape : (s : List ℕ) → are_shown (escape s) ≡ true
are_shown-escape [] = refl
are_shown-escape (x ∷ s) = are_shown-append (escape_byte x) (escape s) (are_shown-escape_byte x) (are_shown-escape s)

pub are_shown-quoted : (s : List ℕ) → are_shown (quoted s) ≡ true
are_shown-quoted s = are_shown-append (escape s) (34 ∷ []) (are_shown-escape s) refl

shown_by_index : (xs : List ℕ) → ((i : ℕ) → i < length xs → 32 ≤ get_or xs i 0) → are_shown xs ≡ true
shown_by_index [] h = refl
shown_by_index (x ∷ xs) h = and_from _ _ (le-leb 32 x (h 0 (omega arith))) (shown_by_index xs (λ i below. h (suc i) (omega arith)))

pub are_shown-decimal : (n : ℕ) → n < 2 ^ 64 → are_shown (decimal n) ≡ true
are_shown-decimal n h =
    shown_by_index (decimal n) (λ i below. let d = digit_at _ i (decimal_is_IsNumeral n h).0.1 below in omega (arith, d.0))

-- a text that is shown is free of a control character c
module _ (c : ℕ) (control : c < 32) where
  pub is_free_of-are_shown : (xs : List ℕ) → are_shown xs ≡ true → is_free_of (λ b. b == c) xs ≡ true
  is_free_of-are_shown [] h = refl
  is_free_of-are_shown (x ∷ xs) h =
      let parts = and_parts (nat_le 32 x) _ h in
      and_from _ _ (not_from_false _ (ne_eqb x c (λ e. omega (arith, leb-true 32 x parts.0)))) (is_free_of-are_shown xs parts.1)
