-- The first line of a text at whose front a head stands.
use Rattle.std.proofs.Common.{◌≡◌, ◌+◌, ◌++◌, ◌∷◌, [], List, ℕ, Bool, true, false, suc, cond, refl, sym, ap, ◌∙◌, subst, arith, length, take, drop}
use Rattle.std.proofs.Common.{Some, None, append-nil, if◌then◌else◌, inl, inr}
use Rattle.std.specs.Prelude.{Option, IsTrue, All}
use Rattle.std.specs.List.{after_first, before_first, position_or_len, slice_index_or}
use Rattle.std.specs.Option.{option_map_or}
use Rattle.std.proofs.lemmas.Bool.Decides.{eqb_tells}
use Rattle.std.proofs.lemmas.List.{append_assoc}
use Rattle.std.proofs.Math.Seq.{drop-append-add, take-append_seam}
use Rattle.std.proofs.lemmas.List.Elements.{All-head, All-tail}
use Rattle.httparse.specs.Grammar.{LineEnd, crlf, lf, RequestHead, is_token_byte, is_uri_byte, print_blank, print_end, print_request, print_section, print_version}
use Rattle.httparse.proofs.GrammarLemmas.{print_request-append}
use Rattle.reg_refusals.specs.declared.refusal.Refusal.{Refusal}
use Rattle.reg_refusals.specs.declared.refusal.Refusal.TheVariants as refusals
use Rattle.reg_messages.specs.Head.{IsHead, cut_after, cut_head, ends_in_empty_line, front_of, has_few_lines, head, is_skipped, no_head, over, skipped_len, within_limit}
use Rattle.reg_connection.specs.TurnKinds.{is_space, kind_in, kind_of, kind_on_line, skip_blank}

-- what was found is the head
few-head : (few : Bool) (found rest bytes after : List ℕ) (refusal : Refusal)
    → (if few then head found rest else no_head refusal) ≡ head bytes after → found ≡ bytes
few-head true found rest bytes after refusal is = cc
few-head false found rest bytes after refusal is = absurd (cc)

found-head : (skipped : Bool) (cut : Option (List ℕ × List ℕ)) (tail bytes after : List ℕ) (refusal : Refusal)
    → (if skipped then over else option_map_or
    (λ (found, rest). if has_few_lines found then head found (rest ++ tail) else no_head refusals.HeadTooLarge)
    cut (no_head refusal)) ≡ head bytes after → (rest : List ℕ) × (cut ≡ Some (bytes, rest))
found-head true cut tail bytes after refusal is = absurd (cc)
found-head false None tail bytes after refusal is = absurd (cc)
found-head false (Some (found, rest)) tail bytes after refusal is =
    (rest, ap (λ f. Some (f, rest)) (few-head (has_few_lines found) found (rest ++ tail) bytes after refusals.HeadTooLarge is))

-- a head is cut from the front
split-step : (ends : Bool) (before line bytes rest : List ℕ) (b : ℕ)
    → (cut_after (before ++ b ∷ []) line ≡ Some (bytes, rest) → (before ++ b ∷ []) ++ line ≡ bytes ++ rest)
    → (if ends then Some (before ++ b ∷ [], line) else cut_after (before ++ b ∷ []) line) ≡ Some (bytes, rest)
    → before ++ b ∷ line ≡ bytes ++ rest
split-step true before line bytes rest b later e =
    let pair : (before ++ b ∷ [], line) ≡ (bytes, rest) = cc in
    let found : before ++ b ∷ [] ≡ bytes = ap (λ (p : List ℕ × List ℕ). p.0) pair in
    let left : line ≡ rest = ap (λ (p : List ℕ × List ℕ). p.1) pair in
    sym (append_assoc before (b ∷ []) line) ∙ ap (λ f. f ++ line) found ∙ ap (λ r. bytes ++ r) left
split-step false before line bytes rest b later e = sym (append_assoc before (b ∷ []) line) ∙ later e

cut-split : (before line bytes rest : List ℕ) → cut_after before line ≡ Some (bytes, rest) → before ++ line ≡ bytes ++ rest
cut-split before [] bytes rest is = absurd (cc)
cut-split before (b ∷ line) bytes rest is =
    split-step (ends_in_empty_line (before ++ b ∷ [])) before line bytes rest b (cut-split (before ++ b ∷ []) line bytes rest) is

-- the bytes from the first that isn't skipped
drop-step : (s : Bool) (line left : List ℕ) (b n : ℕ) → left ≡ drop n line
    → (if s then left else b ∷ line) ≡ drop (cond s (1 + n) 0) (b ∷ line)
drop-step true line left b n is =
    let one : suc n ≡ 1 + n = omega arith in
    is ∙ ap (λ k. drop k (b ∷ line)) one
drop-step false line left b n is = refl

skip-drop : (line : List ℕ) → skip_blank line ≡ drop (skipped_len line) line
skip-drop [] = refl
skip-drop (b ∷ line) = drop-step (is_skipped b) line (skip_blank line) b (skipped_len line) (skip-drop line)

first-step : (s : Bool) (line left : List ℕ) (b x : ℕ) (xs : List ℕ) → (left ≡ x ∷ xs → is_skipped x ≡ false) → is_skipped b ≡ s
    → (if s then left else b ∷ line) ≡ x ∷ xs → is_skipped x ≡ false
first-step true line left b x xs later e same = later same
first-step false line left b x xs later e same =
    let first : b ≡ x = cc in
    subst (λ c. is_skipped c ≡ false) first e

skip-first : (line : List ℕ) (x : ℕ) (xs : List ℕ) → skip_blank line ≡ x ∷ xs → is_skipped x ≡ false
skip-first [] x xs is = absurd (cc)
skip-first (b ∷ line) x xs is = first-step (is_skipped b) line (skip_blank line) b x xs (skip-first line x xs) refl is

-- the line begins with the head
line-head : (text bytes after : List ℕ) → front_of text ≡ head bytes after
    → (rest : List ℕ) × (skip_blank (within_limit text) ≡ bytes ++ rest)
unfolding front_of
line-head text bytes after is =
    let (rest, cut) = found-head _ (cut_head (drop (skipped_len (within_limit text)) (within_limit text))) _ bytes after _ is in
    (rest, skip-drop (within_limit text) ∙ cut-split [] _ bytes rest cut)

-- no empty line stands before one that begins with a byte which isn't skipped
no-blank : (blank : List LineEnd) (tail line : List ℕ) → ((x : ℕ) (xs : List ℕ) → line ≡ x ∷ xs → is_skipped x ≡ false)
    → line ≡ print_blank blank ++ tail → line ≡ tail
no-blank [] tail line kept is = is
no-blank (crlf ∷ blank) tail line kept is =
    let e : true ≡ false = kept 13 (10 ∷ (print_blank blank ++ tail)) is in absurd (cc)
no-blank (lf ∷ blank) tail line kept is =
    let e : true ≡ false = kept 10 (print_blank blank ++ tail) is in absurd (cc)

-- no byte of a token or of a target is a space
token-no_space : (b : ℕ) → IsTrue (is_token_byte b) → is_space b ≡ false
unfolding is_token_byte
token-no_space b passes = elim (eqb_tells b 32) [
  | inl x ↦ let e : false ≡ true = subst (λ c. IsTrue (is_token_byte c)) x.1 passes in absurd (cc)
  | inr x ↦ x.0
]

uri-no_space : (b : ℕ) → IsTrue (is_uri_byte b) → is_space b ≡ false
uri-no_space b passes = elim (eqb_tells b 32) [
  | inl x ↦ let e : false ≡ true = subst (λ c. IsTrue (is_uri_byte c)) x.1 passes in absurd (cc)
  | inr x ↦ x.0
]

-- the first space stands after what has none
no_space-len : (xs rest : List ℕ) → All (λ b. is_space b ≡ false) xs
    → position_or_len is_space (xs ++ 32 ∷ rest) ≡ length xs
no_space-len [] rest none = refl
no_space-len (x ∷ xs) rest none =
    rw (All-head (λ b. is_space b ≡ false) x xs none)
    (ap (λ n. 1 + n) (no_space-len xs rest (All-tail (λ b. is_space b ≡ false) x xs none)) ∙ omega arith)

before-space : (xs rest : List ℕ) → All (λ b. is_space b ≡ false) xs → before_first is_space (xs ++ 32 ∷ rest) ≡ xs
before-space xs rest none =
    ap (λ n. take n (xs ++ 32 ∷ rest)) (no_space-len xs rest none) ∙ take-append_seam xs (32 ∷ rest)

after-space : (xs rest : List ℕ) → All (λ b. is_space b ≡ false) xs → after_first is_space (xs ++ 32 ∷ rest) ≡ rest
after-space xs rest none =
    ap (λ n. drop (n + 1) (xs ++ 32 ∷ rest)) (no_space-len xs rest none) ∙ drop-append-add xs (32 ∷ rest) 1

-- the method and the target of a line
kind-on_line : (method target rest : List ℕ) → All (λ b. is_space b ≡ false) method → All (λ b. is_space b ≡ false) target
    → kind_on_line (method ++ 32 ∷ (target ++ 32 ∷ rest)) ≡ kind_of method target
kind-on_line method target rest no_method no_target =
    let line = method ++ 32 ∷ (target ++ 32 ∷ rest) in
    ap (λ m. kind_of m (before_first is_space (after_first is_space line))) (before-space method (target ++ 32 ∷ rest) no_method)
    ∙ ap (λ t. kind_of method (before_first is_space t)) (after-space method (target ++ 32 ∷ rest) no_method)
    ∙ ap (λ t. kind_of method t) (before-space target rest no_target)

-- where a head stands at the front of a text, its turn is that of the head's method and target
pub kind-in_head : (text bytes after : List ℕ) (h : RequestHead) → front_of text ≡ head bytes after → IsHead bytes h
    → kind_in text ≡ kind_of h.method h.target
kind-in_head text bytes after h front is_head =
    let (rest, is) = line-head text bytes after front in
    let tail = print_version h.minor ++ (print_end h.line_end ++ (print_section h.fields h.last ++ rest)) in
    let printed : skip_blank (within_limit text) ≡ print_blank h.blank ++ (h.method ++ 32 ∷ (h.target ++ 32 ∷ tail)) =
    is ∙ ap (λ b. b ++ rest) (is_head.0.1 ∙ append-nil (print_request h)) ∙ print_request-append h rest in
    let begun : skip_blank (within_limit text) ≡ h.method ++ 32 ∷ (h.target ++ 32 ∷ tail) =
    no-blank h.blank (h.method ++ 32 ∷ (h.target ++ 32 ∷ tail)) (skip_blank (within_limit text)) (skip-first (within_limit text)) printed in
    ap kind_on_line begun
    ∙ kind-on_line h.method h.target tail
    (λ k d less. token-no_space (slice_index_or h.method k d) (is_head.0.0.method.1 k d less))
    (λ k d less. uri-no_space (slice_index_or h.target k d) (is_head.0.0.target.1 k d less))
