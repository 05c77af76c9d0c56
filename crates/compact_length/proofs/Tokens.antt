-- What is written for tokens, with the commas and colons between them, is no longer than the lexemes that they came from.
use Rattle.std.proofs.Common.{◌≡◌, ℕ, ◌+◌, ◌≤◌, Bool, true, false, List, [], ◌∷◌, length, refl, arith, length-append}
use Rattle.std.proofs.lemmas.Bool.{false≢true}
use Rattle.json.specs.Token.{Token}
use Rattle.json.specs.Lex.{Lexeme, token, comma, colon, Place, fresh, after_value, after_comma}
use Rattle.json.specs.Lex.{after_key, begins_colon, place_token, punctuate, tokens, lex, between}
use Rattle.json.specs.Print.{token_text, ends, quoted}
use Rattle.compact_length.proofs.Lexemes.{paid, cost, cost-lex}

-- a comma stands between the end of a value and the beginning of the next
abbrev pub comma_length : Bool → ℕ
comma_length true = 1
comma_length false = 0

abbrev pub separated : Bool → Token → ℕ
separated later Token.end_object = 0
separated later Token.end_array = 0
separated later t = comma_length later

-- how long tokens are when they are written, up to a fault
abbrev pub written_length : Bool → List Token → ℕ
written_length later [] = 0
written_length later (Token.bad ∷ ts) = 0
written_length later (t ∷ ts) = separated later t + (length (token_text t) + written_length (ends t) ts)

-- whether a value has just ended, and the comma that stands there already
abbrev later_at : Place → Bool
later_at fresh = false
later_at after_value = true
later_at after_comma = true
later_at after_key = false

abbrev comma_at : Place → ℕ
comma_at after_comma = 1
comma_at p = 0

key_text : (s : List ℕ) → length (token_text (Token.key s)) ≡ length (quoted s) + 1
key_text s = length-append (quoted s) (58 ∷ [])

-- what follows a token, in each place
record Follows (ls : List Lexeme) : Type 0 where
  new : written_length false (punctuate fresh ls) ≤ cost ls
  value : written_length true (punctuate after_value ls) ≤ cost ls
  more : written_length true (punctuate after_comma ls) ≤ 1 + cost ls
  key : begins_colon ls ≡ true → written_length false (punctuate after_key ls) + 1 ≤ cost ls

string_placed : (p : Place) (s : List ℕ) (ls : List Lexeme) (b : Bool) → begins_colon ls ≡ b → Follows ls
    → written_length (later_at p) (place_token p (Token.string s) b (λ next. punctuate next ls))
    ≤ comma_at p + (length (quoted s) + cost ls)
string_placed fresh s ls true e f = let h = f.key e in omega (arith, key_text s)
string_placed after_comma s ls true e f = let h = f.key e in omega (arith, key_text s)
string_placed after_value s ls true e f = omega arith
string_placed after_key s ls true e f = omega arith
string_placed fresh s ls false e f = let h = f.value in omega arith
string_placed after_comma s ls false e f = let h = f.value in omega arith
string_placed after_value s ls false e f = omega arith
string_placed after_key s ls false e f = omega arith

placed : (p : Place) (t : Token) (ls : List Lexeme) → Follows ls
    → written_length (later_at p) (place_token p t (begins_colon ls) (λ next. punctuate next ls)) ≤ comma_at p + paid t (cost ls)
placed p Token.bad ls f = omega arith
placed p (Token.key s) ls f = omega arith
placed p (Token.string s) ls f = string_placed p s ls (begins_colon ls) refl f
placed fresh Token.begin_object ls f = let h = f.new in omega arith
placed after_comma Token.begin_object ls f = let h = f.new in omega arith
placed after_value Token.begin_object ls f = omega arith
placed after_key Token.begin_object ls f = omega arith
placed fresh Token.begin_array ls f = let h = f.new in omega arith
placed after_comma Token.begin_array ls f = let h = f.new in omega arith
placed after_value Token.begin_array ls f = omega arith
placed after_key Token.begin_array ls f = omega arith
placed fresh Token.end_object ls f = let h = f.value in omega arith
placed after_value Token.end_object ls f = let h = f.value in omega arith
placed after_comma Token.end_object ls f = omega arith
placed after_key Token.end_object ls f = omega arith
placed fresh Token.end_array ls f = let h = f.value in omega arith
placed after_value Token.end_array ls f = let h = f.value in omega arith
placed after_comma Token.end_array ls f = omega arith
placed after_key Token.end_array ls f = omega arith
placed fresh (Token.number s) ls f = let h = f.value in omega arith
placed after_comma (Token.number s) ls f = let h = f.value in omega arith
placed after_value (Token.number s) ls f = omega arith
placed after_key (Token.number s) ls f = omega arith
placed fresh (Token.boolean b) ls f = let h = f.value in omega arith
placed after_comma (Token.boolean b) ls f = let h = f.value in omega arith
placed after_value (Token.boolean b) ls f = omega arith
placed after_key (Token.boolean b) ls f = omega arith
placed fresh Token.null ls f = let h = f.value in omega arith
placed after_comma Token.null ls f = let h = f.value in omega arith
placed after_value Token.null ls f = omega arith
placed after_key Token.null ls f = omega arith

follows : (ls : List Lexeme) → Follows ls
unfolding punctuate
follows [] = record { new = omega arith; value = omega arith; more = omega arith; key = λ e. absurd (false≢true e) }
follows (token t ∷ ls) =
    let f = follows ls in
    let new = placed fresh t ls f in
    let value = placed after_value t ls f in
    record { new = omega arith; value = omega arith; more = placed after_comma t ls f; key = λ e. absurd (false≢true e) }
follows (comma ∷ ls) =
    let p = (follows ls).more in record { new = omega arith; value = omega arith; more = omega arith; key = λ e. absurd (false≢true e) }
follows (colon ∷ ls) =
    let p = (follows ls).new in record { new = omega arith; value = omega arith; more = omega arith; key = λ e. omega arith }

pub tokens_written : (text : List ℕ) → written_length false (tokens text) ≤ length text
tokens_written text = let f = (follows (lex between text)).new in omega (arith, cost-lex text)
