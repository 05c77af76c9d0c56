-- Numbers in digits: in parts, place by place, and read back.
use Rattle.std.proofs.Common.{◌≡◌, ◌≢◌, ◌<◌, ◌≤◌, ◌+◌, ◌-◌, ◌*◌, ◌/◌, ◌%◌, ◌^◌, ◌++◌, ◌∷◌, ◌⊎◌, inl, inr, [], ℕ, zero, suc, List, Bool, true, false, cond}
use Rattle.std.proofs.Common.{refl, sym, ap, subst, ◌∙◌, arith, ne_eqb, eq-zero-or-pos, div-add-mod'}
use Rattle.std.specs.Prelude.{◌==◌, decimal}
use Rattle.std.proofs.lemmas.List.{append_assoc, append-nil}
use Rattle.std.proofs.lemmas.Nat.{div-mul-add, mod-mul-add}
use Rattle.std.proofs.lemmas.Fmt.{decimal_by_steps_wide}
use Rattle.exposition.specs.Escapes.{escaped}
use Rattle.exposition.specs.Numbers.{fraction, number_text, places}

-- a number by its whole part and its millionths
pub number_in_parts : (units m : ℕ) → m < 1000000 → number_text (units * 1000000 + m) ≡ decimal units ++ fraction m
unfolding number_text
number_in_parts units m h = rw (div-mul-add units 1000000 m h, mod-mul-add units 1000000 m h) refl

-- a number by division
pub number_divided : (m : ℕ) → number_text ((m / 1000000) * 1000000 + m % 1000000) ≡ number_text m
number_divided m = ap number_text (div-add-mod' m 1000000)

-- one place more
pub place_more : (k rest : ℕ) → 0 < rest → places (suc k) rest ≡ (48 + rest * 10 / 1000000) ∷ places k (rest * 10 % 1000000)
unfolding places
place_more k rest h = let ne : rest ≢ 0 = omega arith in rw (ne_eqb rest 0 ne) refl

-- nothing is left
pub no_places : (k : ℕ) → places k 0 ≡ []
unfolding places
no_places zero = refl
no_places (suc k) = refl

pub place_written : (i rest : ℕ) (out now all : List ℕ) → i < 6 → 0 < rest → out ++ places (6 - i) rest ≡ all
    → now ≡ out ++ ((48 + rest * 10 / 1000000) ∷ []) → now ++ places (6 - (i + 1)) (rest * 10 % 1000000) ≡ all
place_written i rest out now all below some whole_before more =
    let e : 6 - i ≡ suc (6 - (i + 1)) = omega arith in
    ap (λ t. t ++ places (6 - (i + 1)) (rest * 10 % 1000000)) more
    ∙ append_assoc out ((48 + rest * 10 / 1000000) ∷ []) (places (6 - (i + 1)) (rest * 10 % 1000000))
    ∙ ap (λ t. out ++ t) (sym (ap (λ k. places k rest) e ∙ place_more (6 - (i + 1)) rest some))
    ∙ whole_before

pub all_written : (k rest : ℕ) (out all : List ℕ) → out ++ places k rest ≡ all → (rest ≡ 0) ⊎ (k ≡ 0) → out ≡ all
unfolding places
all_written k rest out all e (inl none) = sym (append-nil out) ∙ ap (λ t. out ++ t) (sym (ap (places k) none ∙ no_places k)) ∙ e
all_written k rest out all e (inr none) = sym (append-nil out) ∙ ap (λ t. out ++ t) (sym (ap (λ n. places n rest) none)) ∙ e

-- a digit, a point, or a slash, which comes between them
abbrev pub AreNumeric : List ℕ → Type 0
AreNumeric [] = Unit {0}
AreNumeric (b ∷ bs) = (46 ≤ b) × (b ≤ 57) × AreNumeric bs

pub AreNumeric-append : (xs ys : List ℕ) → AreNumeric xs → AreNumeric ys → AreNumeric (xs ++ ys)
AreNumeric-append [] ys p q = q
AreNumeric-append (x ∷ xs) ys (low, high, p) q = (low, high, AreNumeric-append xs ys p q)

numeric_decimal : (n : ℕ) → n < 10 ^ 64 → AreNumeric (decimal n)
numeric_decimal =
    decimal_by_steps_wide (λ _ ds. AreNumeric ds)
    (λ n h. (omega arith, omega arith, tt))
    (λ n ds h p. AreNumeric-append ds ((48 + n % 10) ∷ []) p (omega arith, omega arith, tt))

numeric_places : (k rest : ℕ) → rest < 1000000 → AreNumeric (places k rest)
unfolding places
numeric_places zero rest h = tt
numeric_places (suc k) rest h = go (numeric_places k (rest * 10 % 1000000) (omega arith)) (eq-zero-or-pos rest)
  where
    go : AreNumeric (places k (rest * 10 % 1000000)) → (rest ≡ 0) ⊎ (0 < rest) → AreNumeric (places (suc k) rest)
    go more (inl none) = subst AreNumeric (sym (ap (places (suc k)) none)) tt
    go more (inr some) = subst AreNumeric (sym (place_more k rest some)) (omega arith, omega arith, more)

numeric_fraction : (m : ℕ) → m < 1000000 → AreNumeric (fraction m)
unfolding fraction
numeric_fraction m h = go (m == 0)
  where
    go : (none : Bool) → AreNumeric (cond none [] (46 ∷ places 6 m))
    go true = tt
    go false = (omega arith, omega arith, numeric_places 6 m h)

pub numeric_number : (m : ℕ) → m < 10 ^ 64 → AreNumeric (number_text m)
unfolding number_text
numeric_number m h =
    AreNumeric-append (decimal (m / 1000000)) (fraction (m % 1000000))
    (numeric_decimal (m / 1000000) (omega arith)) (numeric_fraction (m % 1000000) (omega arith))

escaped_numeric : (bs : List ℕ) → AreNumeric bs → escaped true bs ≡ bs
escaped_numeric [] p = refl
escaped_numeric (b ∷ bs) (low, high, p) =
    let no_backslash : b ≢ 92 = omega arith in
    let no_feed : b ≢ 10 = omega arith in
    let no_quote : b ≢ 34 = omega arith in
    rw (ne_eqb b 92 no_backslash, ne_eqb b 10 no_feed, ne_eqb b 34 no_quote) (ap (λ t. b ∷ t) (escaped_numeric bs p))

-- nothing in a number has to be escaped
pub escaped_number : (m : ℕ) → m < 2 ^ 64 → escaped true (number_text m) ≡ number_text m
escaped_number m h = escaped_numeric (number_text m) (numeric_number m (omega arith))
