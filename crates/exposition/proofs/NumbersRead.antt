-- A number is read back from its digits.
use Rattle.std.proofs.Common.{◌≡◌, ◌<◌, ◌≤◌, ◌+◌, ◌*◌, ◌/◌, ◌%◌, ◌^◌, ◌++◌, ◌∷◌, ◌⊎◌, inl, inr, [], ℕ, zero, suc, List, Bool, true, false, ◌&&◌, cond}
use Rattle.std.proofs.Common.{refl, sym, ap, ◌∙◌, arith, eq-zero-or-pos, pow-suc, le-leb, mul_assoc, mul_comm, eqb-true}
use Rattle.std.specs.Prelude.{◌==◌, decimal, nat_le}
use Rattle.std.specs.List.{list_all}
use Rattle.std.specs.Str.Parse.{digits_value}
use Rattle.std.proofs.lemmas.Nat.{mul-mod_first}
use Rattle.std.proofs.lemmas.Fmt.{decimal_by_steps_wide, decimal_is_IsNumeral_wide}
use Rattle.std.proofs.lemmas.List.Folds.{list_all-append}
use Rattle.exposition.specs.Names.{is_digit}
use Rattle.exposition.specs.Numbers.{fraction, number_text, places}
use Rattle.exposition.proofs.Numbers.{AreNumeric, numeric_number, no_places, place_more}
use Rattle.exposition.proofs.Splits.{Stops, split_same}

places_same : (k m n : ℕ) → m < 1000000 → n < 1000000 → (m * 10 ^ k) % 1000000 ≡ 0 → (n * 10 ^ k) % 1000000 ≡ 0
    → places k m ≡ places k n → m ≡ n
places_same zero m n low high ends ends' e = omega (arith)
places_same (suc k) m n low high ends ends' e = go (eq-zero-or-pos m) (eq-zero-or-pos n)
    (λ same. places_same k (m * 10 % 1000000) (n * 10 % 1000000) (omega arith) (omega arith) (later m ends) (later n ends') same)
  where
    later : (l : ℕ) → (l * 10 ^ suc k) % 1000000 ≡ 0 → (l * 10 % 1000000 * 10 ^ k) % 1000000 ≡ 0
    later l h =
        mul-mod_first (l * 10) (10 ^ k) 1000000
        ∙ ap (λ t. t % 1000000) (mul_assoc l 10 (10 ^ k) ∙ ap (λ t. l * t) (mul_comm 10 (10 ^ k) ∙ sym (pow-suc 10 k)))
        ∙ h

    go : (m ≡ 0) ⊎ (0 < m) → (n ≡ 0) ⊎ (0 < n)
        → (places k (m * 10 % 1000000) ≡ places k (n * 10 % 1000000) → m * 10 % 1000000 ≡ n * 10 % 1000000) → m ≡ n
    go (inl p) (inl q) more = p ∙ sym q
    go (inl p) (inr q) more =
        let none : places (suc k) m ≡ [] = ap (places (suc k)) p ∙ no_places (suc k) in
        let some = place_more k n q in
        absurd (cc)
    go (inr p) (inl q) more =
        let none : places (suc k) n ≡ [] = ap (places (suc k)) q ∙ no_places (suc k) in
        let some = place_more k m p in
        absurd (cc)
    go (inr p) (inr q) more =
        let both = sym (place_more k m p) ∙ e ∙ place_more k n q in
        let heads : 48 + m * 10 / 1000000 ≡ 48 + n * 10 / 1000000 = cc in
        let tails : places k (m * 10 % 1000000) ≡ places k (n * 10 % 1000000) = cc in
        let rests = more tails in
        omega arith

fraction_same : (m n : ℕ) → m < 1000000 → n < 1000000 → fraction m ≡ fraction n → m ≡ n
unfolding fraction
fraction_same m n low high e = go (m == 0) (n == 0) refl refl e
  where
    go : (a b : Bool) → (m == 0) ≡ a → (n == 0) ≡ b → cond a [] (46 ∷ places 6 m) ≡ cond b [] (46 ∷ places 6 n) → m ≡ n
    go true true p q same = eqb-true m 0 p ∙ sym (eqb-true n 0 q)
    go true false p q same = absurd (cc)
    go false true p q same = absurd (cc)
    go false false p q same =
        let both : places 6 m ≡ places 6 n = cc in
        places_same 6 m n low high (omega arith) (omega arith) both

digits_pass : (n : ℕ) → n < 10 ^ 64 → list_all is_digit (decimal n) ≡ true
digits_pass =
    decimal_by_steps_wide (λ _ ds. list_all is_digit ds ≡ true)
    (λ n h. one n h)
    (λ n ds h p. rw (list_all-append is_digit ds ((48 + n % 10) ∷ []), p) (one (n % 10) (omega arith)))
  where
    one : (d : ℕ) → d < 10 → list_all is_digit ((48 + d) ∷ []) ≡ true
    one d h =
        let low : 48 ≤ 48 + d = omega arith in
        let high : 48 + d ≤ 57 = omega arith in
        rw (le-leb 48 (48 + d) low, le-leb (48 + d) 57 high) refl

fraction_stops : (m : ℕ) → Stops is_digit (fraction m)
unfolding fraction
fraction_stops m = go (m == 0)
  where
    go : (a : Bool) → Stops is_digit (cond a [] (46 ∷ places 6 m))
    go true = tt
    go false = refl

decimal_same : (m n : ℕ) → m < 10 ^ 64 → n < 10 ^ 64 → decimal m ≡ decimal n → m ≡ n
decimal_same m n low high e =
    sym (decimal_is_IsNumeral_wide m low).1 ∙ ap (digits_value 10) e ∙ (decimal_is_IsNumeral_wide n high).1

pub number_same : (m n : ℕ) → m < 10 ^ 64 → n < 10 ^ 64 → number_text m ≡ number_text n → m ≡ n
unfolding number_text
number_same m n low high e =
    let low' : m / 1000000 < 10 ^ 64 = omega arith in
    let high' : n / 1000000 < 10 ^ 64 = omega arith in
    let (wholes, fractions) = split_same is_digit (decimal (m / 1000000)) (decimal (n / 1000000)) (fraction (m % 1000000))
    (fraction (n % 1000000)) (digits_pass (m / 1000000) low') (digits_pass (n / 1000000) high')
    (fraction_stops (m % 1000000)) (fraction_stops (n % 1000000)) e in
    let same_wholes = decimal_same (m / 1000000) (n / 1000000) low' high' wholes in
    let same_rests = fraction_same (m % 1000000) (n % 1000000) (omega arith) (omega arith) fractions in
    omega arith

-- what a number has: digits, a point, or a slash, which comes between them
abbrev pub in_number : ℕ → Bool
in_number b = nat_le 46 b && nat_le b 57

numeric_passes : (bs : List ℕ) → AreNumeric bs → list_all in_number bs ≡ true
numeric_passes [] p = refl
numeric_passes (b ∷ bs) (low, high, p) = rw (le-leb 46 b low, le-leb b 57 high) (numeric_passes bs p)

pub number_passes : (m : ℕ) → m < 10 ^ 64 → list_all in_number (number_text m) ≡ true
number_passes m h = numeric_passes (number_text m) (numeric_number m h)

-- a number is read back up to an LF
pub number_read : (m n : ℕ) (x y : List ℕ) → m < 10 ^ 64 → n < 10 ^ 64 → number_text m ++ (10 ∷ x) ≡ number_text n ++ (10 ∷ y)
    → (m ≡ n) × (x ≡ y)
number_read m n x y low high e =
    let (same, rest) = split_same in_number (number_text m) (number_text n) (10 ∷ x) (10 ∷ y)
    (number_passes m low) (number_passes n high) refl refl e in
    (number_same m n low high same, cc)
