-- A whole number in decimal is no longer than the text that it was read from.
use Rattle.std.proofs.Common.{◌≡◌, ℕ, zero, suc, ◌+◌, ◌-◌, ◌^◌, ◌<◌, ◌≤◌, Bool, true, false, cond, ◌&&◌, ◌==◌}
use Rattle.std.proofs.Common.{nat_lt, nat_le, List, [], ◌∷◌, ◌++◌, length, take, drop, slice_index, Option, Some}
use Rattle.std.proofs.Common.{None, if◌then◌else◌, not, decimal, neg_ℤ, pos, refl, sym, ap, ◌∙◌, subst}
use Rattle.std.proofs.Common.{arith, append-nil}
use Rattle.std.proofs.lemmas.Bool.{true≢false, false≢true, leb-true, ltb-true, le-ltb, lt-ltb, and_parts}
use Rattle.std.proofs.lemmas.Fmt.{length-decimal-le}
use Rattle.std.proofs.lemmas.Int.Digits.{digits_value-lt}
use Rattle.std.proofs.lemmas.List.{length-take}
use Rattle.std.specs.Prelude.{⊤}
use Rattle.std.specs.Char.{is_ascii_digit, digit_value}
use Rattle.std.specs.Fmt.{signed_decimal}
use Rattle.std.specs.Float.{binary64, float_is_finite}
use Rattle.std.specs.Float.Numeral.{Parts, scan_numeral, numeral_digits, nearest_float}
use Rattle.std.specs.List.{prefix_len}
use Rattle.std.specs.Str.Parse.{AllDigits, digits_value}
use Rattle.serde_json.specs.Data.{Num}
use Rattle.serde_json.specs.Read.{is_integer, float_of, number_from, number_of}
use Rattle.serde_json.specs.Written.{number_text}

abbrev pub AtMost : {A : Type 0} → (A → ℕ) → ℕ → Option A → Type 0
AtMost f n None = ⊤
AtMost f n (Some a) = f a ≤ n

abbrev pub text_length : Num → ℕ
text_length n = length (number_text n)

digit_below_ten : (x : ℕ) → 48 ≤ x → x ≤ 57 → digit_value x < 10
digit_below_ten x low high = let small : x < 58 = omega arith in rw (le-ltb x 48 low, lt-ltb x 58 small) (omega arith)

all_digits_at : (d : Bool) (x : ℕ) (xs : List ℕ) (n : ℕ) → is_ascii_digit x ≡ d
    → AllDigits 10 (take n xs) → AllDigits 10 (take (cond d (1 + n) 0) (x ∷ xs))
all_digits_at false x xs n e h = tt
all_digits_at true x xs n e h =
    let next : suc n ≡ 1 + n = omega arith in
    subst (λ m. AllDigits 10 (take m (x ∷ xs))) next
    (digit_below_ten x (leb-true 48 x (and_parts _ _ e).0) (leb-true x 57 (and_parts _ _ e).1), h)

all_digits : (xs : List ℕ) → AllDigits 10 (take (prefix_len is_ascii_digit xs) xs)
all_digits [] = tt
all_digits (x ∷ xs) = all_digits_at (is_ascii_digit x) x xs (prefix_len is_ascii_digit xs) refl (all_digits xs)

-- the parts of a numeral at the front of a text of at most n bytes
record FrontOf (n : ℕ) (p : Parts) : Type 0 where
  digits : AllDigits 10 p.whole
  short : length p.whole ≤ n
  no_fraction : p.point ≡ false → p.fraction ≡ []

no_part : (b : Bool) (xs : List ℕ) → b ≡ false → (if b then xs else []) ≡ []
no_part true xs e = absurd (true≢false e)
no_part false xs e = refl

scanned : (xs : List ℕ) → FrontOf (length xs) (scan_numeral xs)
unfolding scan_numeral
scanned xs =
    let n = prefix_len is_ascii_digit xs in
    let front : n ≡ 0 + n - 0 = omega arith in record {
      digits = subst (λ m. AllDigits 10 (take m xs)) front (all_digits xs);
      short = omega (arith, length-take (0 + n - 0) xs);
      no_fraction = no_part _ _;
    }

point_missing : (b : Bool) → not b ≡ true → b ≡ false
point_missing true e = absurd (false≢true e)
point_missing false e = refl

decimal_short : (n : ℕ) (p : Parts) → FrontOf n p → is_integer p ≡ true
    → numeral_digits p < 2 ^ 64 → length (decimal (numeral_digits p)) ≤ n
decimal_short n p f e small =
    let both = and_parts (nat_lt 0 (length p.whole) && not p.point) _ e in
    let two = and_parts (nat_lt 0 (length p.whole)) (not p.point) both.0 in
    let value : numeral_digits p ≡ digits_value 10 p.whole =
    ap (λ r. digits_value 10 (p.whole ++ r)) (f.no_fraction (point_missing p.point two.1))
    ∙ ap (digits_value 10) (append-nil p.whole) in
    let bound : numeral_digits p < 10 ^ length p.whole =
    subst (λ v. v < 10 ^ length p.whole) (sym value) (digits_value-lt 10 p.whole f.digits) in
    let le : length (decimal (numeral_digits p)) ≤ length p.whole =
    length-decimal-le (length p.whole) (numeral_digits p) (ltb-true 0 (length p.whole) two.0) bound small in
    omega (arith, f.short)

signed_short : (n : ℕ) → length (signed_decimal (neg_ℤ (pos n))) ≤ 1 + length (decimal n)
signed_short zero = omega arith
signed_short (suc n) = omega arith

by_test : (n : ℕ) (b : Bool) (x y : Option Num) → (b ≡ true → AtMost text_length n x)
    → AtMost text_length n y → AtMost text_length n (if b then x else y)
by_test n true x y f g = f refl
by_test n false x y f g = g

no_text : (n : ℕ) (sign : Bool) (p : Parts) → AtMost text_length n (float_of sign p)
no_text n sign p = by_test n (float_is_finite (nearest_float binary64 sign p)) _ _ (λ e. omega arith) tt

unsigned_short : (n : ℕ) (p : Parts) → FrontOf n p → AtMost text_length n (number_from false p)
unsigned_short n p f =
    by_test n (is_integer p && nat_lt (numeral_digits p) (2 ^ 64)) _ _
    (λ e. decimal_short n p f (and_parts (is_integer p) _ e).0 (ltb-true (numeral_digits p) (2 ^ 64) (and_parts (is_integer p) _ e).1))
    (no_text n false p)

less : (v : ℕ) → v ≤ 2 ^ 63 → v < 2 ^ 64
less v h = omega arith

negative_short : (n : ℕ) (p : Parts) → FrontOf n p → AtMost text_length (1 + n) (number_from true p)
negative_short n p f =
    by_test (1 + n) (is_integer p && nat_lt 0 (numeral_digits p) && nat_le (numeral_digits p) (2 ^ 63)) _ _
    (λ e.
    let both = and_parts (is_integer p && nat_lt 0 (numeral_digits p)) _ e in
    let whole = and_parts (is_integer p) _ both.0 in
    let le = decimal_short n p f whole.0 (less (numeral_digits p) (leb-true (numeral_digits p) (2 ^ 63) both.1)) in
    omega (arith, signed_short (numeral_digits p), le))
    (no_text (1 + n) true p)

by_sign : (s : List ℕ) (b : Bool) → (slice_index s 0 == 45) ≡ b
    → AtMost text_length (length s) (if b then number_from true (scan_numeral (drop 1 s)) else number_from false (scan_numeral s))
by_sign s false e = unsigned_short (length s) (scan_numeral s) (scanned s)
by_sign [] true e = absurd (false≢true e)
by_sign (x ∷ xs) true e =
    let n : 1 + length xs ≡ length (x ∷ xs) = omega arith in
    subst (λ m. AtMost text_length m (number_from true (scan_numeral xs))) n (negative_short (length xs) (scan_numeral xs) (scanned xs))

pub number_shorter : (s : List ℕ) → AtMost text_length (length s) (number_of s)
unfolding number_of
number_shorter s = by_sign s (slice_index s 0 == 45) refl
