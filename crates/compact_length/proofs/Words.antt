-- A number or a literal is no longer than what the lexer passes for it.
use Rattle.std.proofs.Common.{◌≡◌, ℕ, suc, ◌+◌, ◌-◌, ◌<◌, ◌≤◌, Bool, true, false, cond, ◌&&◌, ◌||◌, ◌==◌, List, [], ◌∷◌, ◌++◌, length, take}
use Rattle.std.proofs.Common.{drop, Option, Some, None, option_and_then, inl, inr, ◌⊎◌, refl, sym, ap, ◌∙◌, subst, nat_eq, lit<}
use Rattle.std.proofs.Common.{arith, length-append}
use Rattle.std.proofs.lemmas.Bool.{false≢true, ne_eqb, eqb-true, leb-true, and_parts, or_cases}
use Rattle.std.proofs.lemmas.List.{length-take, length-drop, take-append-drop}
use Rattle.std.proofs.lemmas.Slice.Eq.{bytes_eq-Decides}
use Rattle.std.specs.Prelude.{⊤}
use Rattle.std.specs.List.{prefix_len, starts_with}
use Rattle.std.specs.Char.{is_ascii_digit}
use Rattle.json.specs.Token.{Token}
use Rattle.json.specs.Word.{head, ends_word, after_digits, after_minus, after_sign, after_whole}
use Rattle.json.specs.Word.{after_fraction, after_exponent, after_number, number_before, literal, word}
use Rattle.json.specs.Lex.{other, class, lex, lex_byte, between, in_word}
use Rattle.json.specs.Print.{token_text}
use Rattle.json.proofs.Printed.Numbers.{in_word-ended}

-- inside a word the lexer passes from t to r
pub record Passes (t r : List ℕ) : Type 0 where
  pub lexed : lex in_word t ≡ lex in_word r
  pub shorter : length r ≤ length t

stays : (t : List ℕ) → Passes t t
stays t = record { lexed = refl; shorter = omega arith }

both : (t u v : List ℕ) → Passes t u → Passes u v → Passes t v
both t u v p q = record { lexed = p.lexed ∙ q.lexed; shorter = omega arith }

pub passes_byte : (x : ℕ) (xs : List ℕ) → class x ≡ other → Passes (x ∷ xs) xs
unfolding lex
passes_byte x xs e = record { lexed = ap (λ c. lex_byte in_word c x xs (λ m. lex m xs)) e; shorter = omega arith }

passes_one : (c : ℕ) (t : List ℕ) → class c ≡ other → (head t == c) ≡ true → (32 == c) ≡ false → Passes t (drop 1 t)
passes_one c [] k e spaced = absurd (false≢true (sym spaced ∙ e))
passes_one c (x ∷ xs) k e spaced = passes_byte x xs (ap class (eqb-true x c e) ∙ k)

passes_either : (a b : ℕ) (t : List ℕ) → class a ≡ other → class b ≡ other → (32 == a) ≡ false
    → (32 == b) ≡ false → ((head t == a) || (head t == b)) ≡ true → Passes t (drop 1 t)
passes_either a b t p q u v e = go (or_cases _ _ e)
  where
    go : ((head t == a) ≡ true) ⊎ ((head t == b) ≡ true) → Passes t (drop 1 t)
    go (inl h) = passes_one a t p h u
    go (inr h) = passes_one b t q h v

digit_class_at : (x : ℕ) → 48 ≤ x → x ≤ 57 → class x ≡ other
digit_class_at x low high =
    simp (
      ne_eqb x 34 (λ e. omega arith),
      ne_eqb x 92 (λ e. omega arith),
      ne_eqb x 123 (λ e. omega arith),
      ne_eqb x 125 (λ e. omega arith),
      ne_eqb x 91 (λ e. omega arith),
      ne_eqb x 93 (λ e. omega arith),
      ne_eqb x 58 (λ e. omega arith),
      ne_eqb x 44 (λ e. omega arith),
      ne_eqb x 32 (λ e. omega arith),
      ne_eqb x 9 (λ e. omega arith),
      ne_eqb x 10 (λ e. omega arith),
      ne_eqb x 13 (λ e. omega arith),
    )

digit_class : (x : ℕ) → is_ascii_digit x ≡ true → class x ≡ other
digit_class x h = digit_class_at x (leb-true 48 x (and_parts _ _ h).0) (leb-true x 57 (and_parts _ _ h).1)

passes_digits_at : (d : Bool) (x : ℕ) (xs : List ℕ) (n : ℕ) → (d ≡ true → class x ≡ other)
    → Passes xs (drop n xs) → Passes (x ∷ xs) (drop (cond d (1 + n) 0) (x ∷ xs))
passes_digits_at false x xs n k h = stays (x ∷ xs)
passes_digits_at true x xs n k h =
    let e : suc n ≡ 1 + n = omega arith in
    subst (λ m. Passes (x ∷ xs) (drop m (x ∷ xs))) e (both (x ∷ xs) xs (drop n xs) (passes_byte x xs (k refl)) h)

passes_digits : (t : List ℕ) → Passes t (drop (prefix_len is_ascii_digit t) t)
passes_digits [] = stays []
passes_digits (x ∷ xs) = passes_digits_at (is_ascii_digit x) x xs (prefix_len is_ascii_digit xs) (digit_class x) (passes_digits xs)

optional : (t : List ℕ) (b : Bool) → (b ≡ true → Passes t (drop 1 t)) → Passes t (cond b (drop 1 t) t)
optional t true f = f refl
optional t false f = stays t

-- what a part leaves, where there is such a part, is reached from t and shorter than n
abbrev Reached : ℕ → List ℕ → Option (List ℕ) → Type 0
Reached n t None = ⊤
Reached n t (Some r) = Passes t r × (length r < n)

below : (a b n : ℕ) → a ≤ b → b < n → a < n
below a b n h k = omega arith

module _ (n : ℕ) where
  by_test : (t : List ℕ) (b : Bool) (x y : Option (List ℕ)) → (b ≡ true → Reached n t x)
      → (b ≡ false → Reached n t y) → Reached n t (cond b x y)
  by_test t true x y f g = f refl
  by_test t false x y f g = g refl

  from : (t u : List ℕ) (o : Option (List ℕ)) → Passes t u → Reached n u o → Reached n t o
  from t u None p h = tt
  from t u (Some r) p h = (both t u r p h.0, h.1)

  then : (t : List ℕ) (f : List ℕ → Option (List ℕ)) → ((u : List ℕ) → length u < n → Reached n u (f u))
      → (o : Option (List ℕ)) → Reached n t o → Reached n t (option_and_then f o)
  then t f h None p = tt
  then t f h (Some u) p = from t u (f u) p.0 (h u p.1)

  digits : (t : List ℕ) → length t < n → Reached n t (after_digits t)
  digits t h =
      by_test t (prefix_len is_ascii_digit t == 0) None (Some (drop (prefix_len is_ascii_digit t) t)) (λ e. tt)
      (λ e. (passes_digits t, below _ (length t) n (passes_digits t).shorter h))

  exponent : (t : List ℕ) → length t < n → Reached n t (after_exponent t)
  exponent t h =
      let u = drop 1 t in
      by_test t ((head t == 101) || (head t == 69)) (after_digits (after_sign u)) (Some t)
      (λ e.
      let p = passes_either 101 69 t refl refl refl refl e in
      let q = optional u ((head u == 45) || (head u == 43)) (passes_either 45 43 u refl refl refl refl) in
      from t u _ p (from u (after_sign u) _ q (digits (after_sign u) (below _ (length u) n q.shorter (below _ (length t) n p.shorter h)))))
      (λ e. (stays t, h))

  fraction : (t : List ℕ) → length t < n → Reached n t (after_fraction t)
  fraction t h =
      by_test t (head t == 46) (after_digits (drop 1 t)) (Some t)
      (λ e. let p = passes_one 46 t refl e refl in from t (drop 1 t) _ p (digits (drop 1 t) (below _ (length t) n p.shorter h)))
      (λ e. (stays t, h))

some_digit : (d : Bool) (m : ℕ) (x : ℕ) (xs : List ℕ) → Passes (x ∷ xs) (drop (cond d (1 + m) 0) (x ∷ xs))
    → Reached (length (x ∷ xs)) (x ∷ xs) (cond (cond d (1 + m) 0 == 0) None (Some (drop (cond d (1 + m) 0) (x ∷ xs))))
some_digit false m x xs p = tt
some_digit true m x xs p = rw (ne_eqb (1 + m) 0 (λ e. omega arith)) (p, omega (arith, length-drop (1 + m) (x ∷ xs)))

first_digits : (t : List ℕ) → Reached (length t) t (after_digits t)
first_digits [] = tt
first_digits (x ∷ xs) = some_digit (is_ascii_digit x) (prefix_len is_ascii_digit xs) x xs (passes_digits (x ∷ xs))

after_one : (t : List ℕ) → (head t == 48) ≡ true → length (drop 1 t) < length t
after_one [] e = absurd (false≢true e)
after_one (x ∷ xs) e = omega arith

whole : (t : List ℕ) → Reached (length t) t (after_whole t)
whole t =
    by_test (length t) t (head t == 48) (Some (drop 1 t)) (after_digits t)
    (λ e. (passes_one 48 t refl e refl, after_one t e)) (λ e. first_digits t)

-- a greater bound
weaker : (m n : ℕ) (t : List ℕ) (o : Option (List ℕ)) → m ≤ n → Reached m t o → Reached n t o
weaker m n t None le h = tt
weaker m n t (Some r) le h = (h.0, omega (arith, h.1))

pub reached_number : (t : List ℕ) → Reached (length t) t (after_number t)
unfolding after_number
reached_number t =
    let n = length t in
    let p = optional t (head t == 45) (λ e. passes_one 45 t refl e refl) in
    then n t after_exponent (exponent n) _ (then n t after_fraction (fraction n) _
    (from n t (after_minus t) _ p (weaker (length (after_minus t)) n (after_minus t) _ p.shorter (whole (after_minus t)))))

-- ---- a whole word

-- the lexer passes over a word and goes on between words, if it is a good one
abbrev pub Ended : List ℕ → Token → Type 0
Ended t Token.bad = ⊤
Ended t k = (r : List ℕ) × (lex in_word t ≡ lex between r) × (length (token_text k) + length r ≤ length t) × (length r < length t)

ended_number : (t : List ℕ) (o : Option (List ℕ)) → Reached (length t) t o → Ended t (number_before t o)
ended_number t None h = tt
ended_number t (Some r) h = go (ends_word r) refl
  where
    go : (b : Bool) → ends_word r ≡ b → Ended t (cond b (Token.number (take (length t - length r) t)) Token.bad)
    go false e = tt
    go true e = (r, h.0.lexed ∙ in_word-ended r e, omega (arith, h.1, h.0.shorter, length-take (length t - length r) t), h.1)

-- the word k leaves r
abbrev pub Leaves : List ℕ → Token → List ℕ → Type 0
Leaves t k r = (lex in_word t ≡ lex between r) × (length (token_text k) + length r ≤ length t) × (length r < length t)

lengths : (a b r n : ℕ) → a ≡ b → b + r ≡ n → a + r ≤ n
lengths a b r n p q = omega arith

positive : (b r n : ℕ) → 0 < b → b + r ≡ n → r < n
positive b r n p q = omega arith

ended_literal : (name : List ℕ) (k : Token) (t : List ℕ) → ((r : List ℕ) → lex in_word (name ++ r) ≡ lex in_word r)
    → length (token_text k) ≡ length name → 0 < length name → ((r : List ℕ) → Leaves t k r → Ended t k)
    → Ended t (literal name k t)
ended_literal name k t passes same some good = go (starts_with nat_eq t name && ends_word (drop (length name) t)) refl
  where
    go : (b : Bool) → (starts_with nat_eq t name && ends_word (drop (length name) t)) ≡ b → Ended t (cond b k Token.bad)
    go false e = tt
    go true e =
        let two = and_parts _ _ e in
        let r = drop (length name) t in
        let front : name ≡ take (length name) t = (bytes_eq-Decides name (take (length name) t)).0 two.0 in
        let split : name ++ r ≡ t = ap (λ l. l ++ r) front ∙ take-append-drop (length name) t in
        let sum : length name + length r ≡ length t = sym (length-append name r) ∙ ap length split in
        good r (
          ap (lex in_word) (sym split) ∙ passes r ∙ in_word-ended r two.1,
          lengths _ _ (length r) (length t) same sum,
          positive (length name) (length r) (length t) some sum,
        )

choose : (t : List ℕ) (b : Bool) (x y : Token) → Ended t x → Ended t y → Ended t (cond b x y)
choose t true x y p q = p
choose t false x y p q = q

pub ended_word : (t : List ℕ) → Ended t (word t)
unfolding word lex
ended_word t =
    choose t (head t == 116) _ _
    (ended_literal (116 ∷ 114 ∷ 117 ∷ 101 ∷ []) (Token.boolean true) t (λ r. refl) refl (lit< tt) (λ r h. (r, h.0, h.1, h.2)))
    (choose t (head t == 102) _ _
    (ended_literal (102 ∷ 97 ∷ 108 ∷ 115 ∷ 101 ∷ []) (Token.boolean false) t (λ r. refl) refl (lit< tt) (λ r h. (r, h.0, h.1, h.2)))
    (choose t (head t == 110) _ _
    (ended_literal (110 ∷ 117 ∷ 108 ∷ 108 ∷ []) Token.null t (λ r. refl) refl (lit< tt) (λ r h. (r, h.0, h.1, h.2)))
    (ended_number t (after_number t) (reached_number t))))
