-- What is written for tokens, and the commas and colons between them, is no longer than the text that they were read from.
use Rattle.std.proofs.Common.{◌≡◌, ℕ, zero, suc, ◌+◌, ◌<◌, ◌≤◌, Bool, true, false, cond, ◌==◌, List, [], ◌∷◌}
use Rattle.std.proofs.Common.{length, Option, Some, None, refl, sym, ◌∙◌, subst, arith, length-append}
use Rattle.json.specs.Token.{Token}
use Rattle.json.specs.Text.{content, plain}
use Rattle.json.specs.Word.{word}
use Rattle.json.specs.Lex.{Lexeme, token, comma, colon, Class, quote, backslash, operator, space, other, class}
use Rattle.json.specs.Lex.{operator_lexeme, string_token, lex, lex_byte, between, in_word, in_string}
use Rattle.json.specs.Print.{token_text, escape}
use Rattle.compact_length.proofs.Words.{Ended, ended_word, passes_byte}
use Rattle.compact_length.proofs.Strings.{IfClosed, closed}

-- nothing is counted from a fault on
abbrev pub paid : Token → ℕ → ℕ
paid Token.bad rest = 0
paid t rest = length (token_text t) + rest

abbrev pub cost : List Lexeme → ℕ
cost [] = 0
cost (token t ∷ ls) = paid t (cost ls)
cost (comma ∷ ls) = 1 + cost ls
cost (colon ∷ ls) = 1 + cost ls

operator_if : (b : Bool) (x y : Lexeme) (ls : List Lexeme) → cost (x ∷ ls) ≤ 1 + cost ls
    → cost (y ∷ ls) ≤ 1 + cost ls → cost (cond b x y ∷ ls) ≤ 1 + cost ls
operator_if true x y ls p q = p
operator_if false x y ls p q = q

cost-operator : (x : ℕ) (ls : List Lexeme) → cost (operator_lexeme x ∷ ls) ≤ 1 + cost ls
cost-operator x ls =
    operator_if (x == 123) _ _ ls (omega arith)
    (operator_if (x == 125) _ _ ls (omega arith)
    (operator_if (x == 91) _ _ ls (omega arith)
    (operator_if (x == 93) _ _ ls (omega arith) (operator_if (x == 44) comma colon ls (omega arith) (omega arith)))))

-- texts up to a length are no shorter than their tokens
abbrev UpTo : ℕ → Type 0
UpTo n = (xs : List ℕ) → length xs ≤ n → cost (lex between xs) ≤ length xs

string_cost : (e l c n : ℕ) → c ≤ l → e + l < n + 0 → 1 + (e + 1) + c ≤ suc n
string_cost e l c n p q = omega arith

word_cost : (k l c n : ℕ) → c ≤ l → k + l ≤ n → k + c ≤ n
word_cost k l c n p q = omega arith

within : (l n m : ℕ) → l < n → n ≤ suc m → l ≤ m
within l n m p q = omega arith

module _ (n x : ℕ) (xs : List ℕ) (fits : suc (length xs) ≤ suc n) (up_to : UpTo n) where
  string_lexed : (o : Option (List ℕ)) → IfClosed in_string xs 0 o → cost (token (string_token o) ∷ lex in_string xs) ≤ suc (length xs)
  string_lexed None h = omega arith
  string_lexed (Some s) h =
      let quoted_length : length (token_text (Token.string s)) ≡ 1 + (length (escape s) + 1) =
      omega (arith, length-append (escape s) (34 ∷ [])) in
      let left : cost (lex in_string xs) ≤ length h.left =
      subst (λ ls. cost ls ≤ length h.left) (sym h.lexed) (up_to h.left (omega (arith, h.shorter))) in
      rw quoted_length (string_cost (length (escape s)) (length h.left) _ (length xs) left h.longest)

  leaves_cost : (k : Token) → class x ≡ other
      → (h : (r : List ℕ) × (lex in_word (x ∷ xs) ≡ lex between r)
      × (length (token_text k) + length r ≤ suc (length xs)) × (length r < suc (length xs)))
      → length (token_text k) + cost (lex in_word xs) ≤ suc (length xs)
  leaves_cost k e h =
      let lexed : lex in_word xs ≡ lex between h.0 = sym (passes_byte x xs e).lexed ∙ h.1 in
      let left : cost (lex in_word xs) ≤ length h.0 = subst (λ ls. cost ls ≤ length h.0) (sym lexed) (up_to h.0 (within _ _ _ h.3 fits)) in
      word_cost (length (token_text k)) (length h.0) _ (suc (length xs)) left h.2

  word_lexed : (k : Token) → class x ≡ other → Ended (x ∷ xs) k → paid k (cost (lex in_word xs)) ≤ suc (length xs)
  word_lexed Token.bad e h = omega arith
  word_lexed Token.begin_object e h = leaves_cost Token.begin_object e h
  word_lexed Token.end_object e h = leaves_cost Token.end_object e h
  word_lexed Token.begin_array e h = leaves_cost Token.begin_array e h
  word_lexed Token.end_array e h = leaves_cost Token.end_array e h
  word_lexed (Token.key s) e h = leaves_cost (Token.key s) e h
  word_lexed (Token.string s) e h = leaves_cost (Token.string s) e h
  word_lexed (Token.number s) e h = leaves_cost (Token.number s) e h
  word_lexed (Token.boolean b) e h = leaves_cost (Token.boolean b) e h
  word_lexed Token.null e h = leaves_cost Token.null e h

  byte_lexed : (c : Class) → class x ≡ c → cost (lex_byte between c x xs (λ m. lex m xs)) ≤ suc (length xs)
  byte_lexed quote e = string_lexed (content plain xs) (closed plain xs)
  byte_lexed backslash e = omega arith
  byte_lexed operator e = let p = up_to xs (omega arith) in omega (arith, cost-operator x (lex between xs))
  byte_lexed space e = let p = up_to xs (omega arith) in omega arith
  byte_lexed other e = word_lexed (word (x ∷ xs)) e (ended_word (x ∷ xs))

all_up_to : (n : ℕ) → UpTo n
unfolding lex
all_up_to n [] h = omega arith
all_up_to zero (x ∷ xs) h = absurd (omega arith)
all_up_to (suc n) (x ∷ xs) h = byte_lexed n x xs h (all_up_to n) (class x) refl

pub cost-lex : (text : List ℕ) → cost (lex between text) ≤ length text
cost-lex text = all_up_to (length text) text (omega arith)
