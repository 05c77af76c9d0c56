-- A string with its shortest escapes is no longer than what the lexer passes for it.
use Rattle.std.proofs.Common.{◌≡◌, ℕ, suc, ◌+◌, ◌/◌, ◌%◌, ◌<◌, ◌≤◌, Bool, true, false, cond, ◌&&◌, ◌||◌, ◌==◌, nat_lt, List, [], ◌∷◌, ◌++◌}
use Rattle.std.proofs.Common.{length, Option, Some, None, option_and_then, inl, inr, ◌⊎◌, refl, sym, ap, ◌∙◌, subst, arith, length-append}
use Rattle.std.proofs.lemmas.Bool.{false≢true, ne_eqb, eqb-true, le-ltb, ltb-false, and_parts}
use Rattle.std.proofs.lemmas.Grind.{flat_map-append}
use Rattle.std.specs.Prelude.{⊤}
use Rattle.std.specs.Char.{is_digit, encode_utf8}
use Rattle.json.specs.Text.{code_unit, short_escape, is_high_surrogate, is_low_surrogate, surrogate_pair}
use Rattle.json.specs.Text.{Within, plain, after_backslash, after_u, after_high, prepend, content}
use Rattle.json.specs.Word.{is_operator, is_space}
use Rattle.json.specs.Lex.{Lexeme, Mode, quote, backslash, operator, space, other, lex, lex_byte, between, in_string, in_escape}
use Rattle.json.specs.Print.{escape_byte, escape}

-- ---- the escapes of bytes

plain_byte : (x : ℕ) → (x == 34) ≡ false → (x == 92) ≡ false → 32 ≤ x → escape_byte x ≡ x ∷ []
unfolding escape_byte
plain_byte x q b h =
    simp (
      q,
      b,
      ne_eqb x 8 (λ e. omega arith),
      ne_eqb x 12 (λ e. omega arith),
      ne_eqb x 10 (λ e. omega arith),
      ne_eqb x 13 (λ e. omega arith),
      ne_eqb x 9 (λ e. omega arith),
      le-ltb x 32 h,
    )

high_byte : (x : ℕ) → 128 ≤ x → escape_byte x ≡ x ∷ []
high_byte x h = plain_byte x (ne_eqb x 34 (λ e. omega arith)) (ne_eqb x 92 (λ e. omega arith)) (omega arith)

at_most_six : (a b : Bool) (l x y z : ℕ) → length (cond a (92 ∷ l ∷ []) (cond b (92 ∷ 117 ∷ 48 ∷ 48 ∷ y ∷ z ∷ []) (x ∷ []))) ≤ 6
at_most_six true b l x y z = omega arith
at_most_six false true l x y z = omega arith
at_most_six false false l x y z = omega arith

length-escape_byte : (x : ℕ) → length (escape_byte x) ≤ 6
unfolding escape_byte
length-escape_byte x = at_most_six _ _ _ _ _ _

abbrev Short : Option ℕ → Type 0
Short None = ⊤
Short (Some c) = length (escape_byte c) ≤ 2

short_if : (b : Bool) (x y : Option ℕ) → (b ≡ true → Short x) → Short y → Short (cond b x y)
short_if true x y f g = f refl
short_if false x y f g = g

short_at : (x : ℕ) → (((x == 34) ≡ true) ⊎ ((x == 92) ≡ true)) ⊎ ((x == 47) ≡ true) → length (escape_byte x) ≤ 2
unfolding escape_byte
short_at x (inl (inl e)) = let P : ℕ → Type 0 = λ y. length (escape_byte y) ≤ 2 in subst P (sym (eqb-true x 34 e)) (omega arith)
short_at x (inl (inr e)) = let P : ℕ → Type 0 = λ y. length (escape_byte y) ≤ 2 in subst P (sym (eqb-true x 92 e)) (omega arith)
short_at x (inr e) = let P : ℕ → Type 0 = λ y. length (escape_byte y) ≤ 2 in subst P (sym (eqb-true x 47 e)) (omega arith)

three : (a b c : Bool) → (a || b || c) ≡ true → ((a ≡ true) ⊎ (b ≡ true)) ⊎ (c ≡ true)
three true b c h = inl (inl refl)
three false true c h = inl (inr refl)
three false false c h = inr h

short : (x : ℕ) → Short (short_escape x)
unfolding short_escape escape_byte
short x =
    short_if ((x == 34) || (x == 92) || (x == 47)) (Some x) _ (λ e. short_at x (three (x == 34) (x == 92) (x == 47) e))
    (short_if (x == 98) _ _ (λ e. omega arith)
    (short_if (x == 102) _ _ (λ e. omega arith)
    (short_if (x == 110) _ _ (λ e. omega arith)
    (short_if (x == 114) _ _ (λ e. omega arith) (short_if (x == 116) _ _ (λ e. omega arith) tt)))))

abbrev AllHigh : List ℕ → Type 0
AllHigh [] = ⊤
AllHigh (x ∷ xs) = (128 ≤ x) × AllHigh xs

length-escape-high : (xs : List ℕ) → AllHigh xs → length (escape xs) ≡ length xs
length-escape-high [] h = refl
length-escape-high (x ∷ xs) h = rw (high_byte x h.0) (ap suc (length-escape-high xs h.1))

length-escape-encode : (u : ℕ) → length (escape (encode_utf8 u)) ≤ 6
unfolding encode_utf8
length-escape-encode u = go (nat_lt u 128) (nat_lt u 2048) (nat_lt u 65536)
  where
    go : (a b c : Bool)
        → length (
        escape (
        cond a (u ∷ [])
        (cond b ((192 + u / 64) ∷ (128 + u % 64) ∷ [])
        (cond c ((224 + u / 4096) ∷ (128 + u / 64 % 64) ∷ (128 + u % 64) ∷ [])
        ((240 + u / 262144) ∷ (128 + u / 4096 % 64) ∷ (128 + u / 64 % 64) ∷ (128 + u % 64) ∷ [])))))
        ≤ 6
    go true b c = omega (arith, length-escape_byte u, length-append (escape_byte u) [])
    go false true c = rw (length-escape-high ((192 + u / 64) ∷ (128 + u % 64) ∷ []) (omega arith, (omega arith, tt))) (omega arith)
    go false false true =
        rw
        (length-escape-high ((224 + u / 4096) ∷ (128 + u / 64 % 64) ∷ (128 + u % 64) ∷ [])
        (omega arith, (omega arith, (omega arith, tt))))
        (omega arith)
    go false false false =
        rw
        (length-escape-high ((240 + u / 262144) ∷ (128 + u / 4096 % 64) ∷ (128 + u / 64 % 64) ∷ (128 + u % 64) ∷ [])
        (omega arith, (omega arith, (omega arith, (omega arith, tt)))))
        (omega arith)

-- ---- the content of a string

later_shorter : (left y x : ℕ) → left < y → y ≤ x → left < x
later_shorter left y x p q = omega arith

later_longest : (s y l x n : ℕ) → s < y + l → y + l ≤ x + n → s < x + n
later_longest s y l x n p q = omega arith

after_longest : (whole first s left y x n : ℕ) → whole ≡ first + s → s + left < y + 0 → first + y ≤ x + n → whole + left < x + n
after_longest whole first s left y x n e p q = omega arith

-- The lexer, which is in mode m at xs, passes over the rest of a string with the content s and
-- goes on at r. The content's text takes no more than n bytes beyond those.
pub record Closes (m : Mode) (xs : List ℕ) (n : ℕ) (s : List ℕ) : Type 0 where
  pub left : List ℕ
  pub lexed : lex m xs ≡ lex between left
  pub shorter : length left < length xs
  pub longest : length (escape s) + length left < length xs + n

abbrev pub IfClosed : Mode → List ℕ → ℕ → Option (List ℕ) → Type 0
IfClosed m xs n None = ⊤
IfClosed m xs n (Some s) = Closes m xs n s

closed_if : (m : Mode) (xs : List ℕ) (n : ℕ) (b : Bool) (x y : Option (List ℕ))
    → (b ≡ true → IfClosed m xs n x) → (b ≡ false → IfClosed m xs n y) → IfClosed m xs n (cond b x y)
closed_if m xs n true x y f g = f refl
closed_if m xs n false x y f g = g refl

-- the lexer goes on from xs to ys
closed_later : (m k : Mode) (xs ys : List ℕ) (n l : ℕ) (o : Option (List ℕ)) → lex m xs ≡ lex k ys
    → length ys ≤ length xs → length ys + l ≤ length xs + n → IfClosed k ys l o → IfClosed m xs n o
closed_later m k xs ys n l None e p q h = tt
closed_later m k xs ys n l (Some s) e p q h =
    record { left = h.left; lexed = e ∙ h.lexed; shorter = later_shorter _ _ _ h.shorter p; longest = later_longest _ _ _ _ _ h.longest q }

closed_after : (m k : Mode) (xs ys : List ℕ) (n : ℕ) (bytes : List ℕ) (o : Option (List ℕ))
    → lex m xs ≡ lex k ys → length ys ≤ length xs → length (escape bytes) + length ys ≤ length xs + n
    → IfClosed k ys 0 o → IfClosed m xs n (prepend bytes o)
closed_after m k xs ys n bytes None e p q h = tt
closed_after m k xs ys n bytes (Some s) e p q h =
    record {
      left = h.left;
      lexed = e ∙ h.lexed;
      shorter = later_shorter _ _ _ h.shorter p;
      longest =
          after_longest (length (escape (bytes ++ s))) _ _ _ _ _ _
          (ap length (flat_map-append escape_byte bytes s) ∙ length-append (escape bytes) (escape s)) h.longest q;
    }

-- ---- one byte in a string

in_plain : (o s : Bool) (x : ℕ) (xs : List ℕ) (k : Mode → List Lexeme)
    → lex_byte in_string (cond o operator (cond s space other)) x xs k ≡ k in_string
in_plain true s x xs k = refl
in_plain false true x xs k = refl
in_plain false false x xs k = refl

lex_plain : (x : ℕ) (xs : List ℕ) → (x == 34) ≡ false → (x == 92) ≡ false → lex in_string (x ∷ xs) ≡ lex in_string xs
unfolding lex
lex_plain x xs q b =
    ap (λ t.
    lex_byte in_string (cond t quote (cond (x == 92) backslash (cond (is_operator x) operator (cond (is_space x) space other)))) x xs
    (λ m. lex m xs)) q
    ∙ ap (λ t. lex_byte in_string (cond t backslash (cond (is_operator x) operator (cond (is_space x) space other))) x xs (λ m. lex m xs)) b
    ∙ in_plain (is_operator x) (is_space x) x xs (λ m. lex m xs)

lex_quote : (x : ℕ) (xs : List ℕ) → (x == 34) ≡ true → lex in_string (x ∷ xs) ≡ lex between xs
unfolding lex
lex_quote x xs q = ap (λ y. lex in_string (y ∷ xs)) (eqb-true x 34 q)

lex_backslash : (x : ℕ) (xs : List ℕ) → (x == 92) ≡ true → lex in_string (x ∷ xs) ≡ lex in_escape xs
unfolding lex
lex_backslash x xs b = ap (λ y. lex in_string (y ∷ xs)) (eqb-true x 92 b)

lex_escape : (x : ℕ) (xs : List ℕ) → lex in_escape (x ∷ xs) ≡ lex in_string xs
unfolding lex
lex_escape x xs = refl

no_hex : (c x : ℕ) (t : Bool) → (t ≡ true → x ≡ c) → is_digit c 16 ≡ false → is_digit x 16 ≡ true → t ≡ false
no_hex c x false e never h = refl
no_hex c x true e never h = absurd (false≢true (sym never ∙ ap (λ y. is_digit y 16) (sym (e refl)) ∙ h))

lex_hex : (x : ℕ) (xs : List ℕ) → is_digit x 16 ≡ true → lex in_string (x ∷ xs) ≡ lex in_string xs
lex_hex x xs h = lex_plain x xs (no_hex 34 x (x == 34) (eqb-true x 34) refl h) (no_hex 92 x (x == 92) (eqb-true x 92) refl h)

-- what follows four hex digits
with_unit : (m : Mode) (xs ys : List ℕ) (n : ℕ) (f : ℕ → Option (List ℕ)) (a b c d : ℕ)
    → lex m xs ≡ lex in_string (a ∷ b ∷ c ∷ d ∷ ys) → (lex m xs ≡ lex in_string ys → (u : ℕ) → IfClosed m xs n (f u))
    → IfClosed m xs n (option_and_then f (code_unit a b c d))
unfolding code_unit
with_unit m xs ys n f a b c d e h = go (is_digit a 16 && is_digit b 16 && is_digit c 16 && is_digit d 16) _ refl
  where
    go : (t : Bool) (u : ℕ) → (is_digit a 16 && is_digit b 16 && is_digit c 16 && is_digit d 16) ≡ t
        → IfClosed m xs n (option_and_then f (cond t (Some u) None))
    go false u is = tt
    go true u is =
        let p = and_parts (is_digit a 16 && is_digit b 16 && is_digit c 16) (is_digit d 16) is in
        let q = and_parts (is_digit a 16 && is_digit b 16) (is_digit c 16) p.0 in
        let r = and_parts (is_digit a 16) (is_digit b 16) q.0 in
        h (e ∙ lex_hex a (b ∷ c ∷ d ∷ ys) r.0 ∙ lex_hex b (c ∷ d ∷ ys) r.1 ∙ lex_hex c (d ∷ ys) q.1 ∙ lex_hex d ys p.1) u

-- what follows a short escape
with_short : (m : Mode) (xs : List ℕ) (n : ℕ) (f : ℕ → Option (List ℕ)) (o : Option ℕ) → Short o
    → ((c : ℕ) → length (escape_byte c) ≤ 2 → IfClosed m xs n (f c)) → IfClosed m xs n (option_and_then f o)
with_short m xs n f None s h = tt
with_short m xs n f (Some c) s h = h c s

length-escape-one : (c : ℕ) → length (escape (c ∷ [])) ≡ length (escape_byte c)
length-escape-one c = length-append (escape_byte c) [] ∙ omega arith

-- what was read of the string before xs
abbrev before : Within → ℕ
before plain = 0
before after_backslash = 1
before after_u = 2
before (after_high h) = 6

abbrev mode : Within → Mode
mode plain = in_string
mode after_backslash = in_escape
mode after_u = in_string
mode (after_high h) = in_string

one_more : (e x n : ℕ) → e ≡ 1 → e + x ≤ suc x + 0
one_more e x n h = omega arith

pub closed : (w : Within) (xs : List ℕ) → IfClosed (mode w) xs (before w) (content w xs)
unfolding content
closed plain [] = tt
closed plain (x ∷ xs) =
    closed_if in_string (x ∷ xs) 0 (x == 34) _ _
    (λ q. record { left = xs; lexed = lex_quote x xs q; shorter = omega arith; longest = omega arith })
    (λ q. closed_if in_string (x ∷ xs) 0 (x == 92) _ _ (λ b.
    closed_later in_string in_escape (x ∷ xs) xs 0 1 _ (lex_backslash x xs b) (omega arith) (omega arith) (closed after_backslash xs))
    (λ b. closed_if in_string (x ∷ xs) 0 (nat_lt x 32) _ _ (λ l. tt)
    (λ l.
    closed_after in_string in_string (x ∷ xs) xs 0 (x ∷ []) _ (lex_plain x xs q b) (omega arith)
    (one_more _ (length xs) 0 (length-escape-one x ∙ ap length (plain_byte x q b (ltb-false x 32 l)))) (closed plain xs))))
closed after_backslash [] = tt
closed after_backslash (x ∷ xs) =
    closed_if in_escape (x ∷ xs) 1 (x == 117) _ _
    (λ u. closed_later in_escape in_string (x ∷ xs) xs 1 2 _ (lex_escape x xs) (omega arith) (omega arith) (closed after_u xs))
    (λ u. with_short in_escape (x ∷ xs) 1 _ (short_escape x) (short x)
    (λ c h.
    closed_after in_escape in_string (x ∷ xs) xs 1 (c ∷ []) _ (lex_escape x xs)
    (omega arith) (omega (arith, length-escape-one c)) (closed plain xs)))
closed after_u [] = tt
closed after_u (a ∷ []) = tt
closed after_u (a ∷ b ∷ []) = tt
closed after_u (a ∷ b ∷ c ∷ []) = tt
closed after_u (a ∷ b ∷ c ∷ d ∷ xs) =
    let all = a ∷ b ∷ c ∷ d ∷ xs in
    with_unit in_string all xs 2 _ a b c d refl
    (λ e u.
    closed_if in_string all 2 (is_high_surrogate u) _ _
    (λ h. closed_later in_string in_string all xs 2 6 _ e (omega arith) (omega arith) (closed (after_high u) xs))
    (λ h.
    closed_if in_string all 2 (is_low_surrogate u) _ _ (λ l. tt) (λ l.
    closed_after in_string in_string all xs 2 (encode_utf8 u) _ e (omega arith)
    (omega (arith, length-escape-encode u)) (closed plain xs))))
closed (after_high h) [] = tt
closed (after_high h) (s ∷ []) = tt
closed (after_high h) (s ∷ u ∷ []) = tt
closed (after_high h) (s ∷ u ∷ a ∷ []) = tt
closed (after_high h) (s ∷ u ∷ a ∷ b ∷ []) = tt
closed (after_high h) (s ∷ u ∷ a ∷ b ∷ c ∷ []) = tt
closed (after_high h) (s ∷ u ∷ a ∷ b ∷ c ∷ d ∷ xs) =
    let all = s ∷ u ∷ a ∷ b ∷ c ∷ d ∷ xs in
    closed_if in_string all 6 ((s == 92) && (u == 117)) _ _
    (λ e.
    with_unit in_string all xs 6 _ a b c d (
    lex_backslash s (u ∷ a ∷ b ∷ c ∷ d ∷ xs) (and_parts _ _ e).0 ∙ lex_escape u (a ∷ b ∷ c ∷ d ∷ xs))
    (λ f l. closed_if in_string all 6 (is_low_surrogate l) _ _
    (λ y.
    closed_after in_string in_string all xs 6 (encode_utf8 (surrogate_pair h l)) _ f (omega arith)
    (omega (arith, length-escape-encode (surrogate_pair h l))) (closed plain xs))
    (λ y. tt)))
    (λ e. tt)
