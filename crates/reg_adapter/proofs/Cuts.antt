-- Where the first line of some bytes ends, and what it says.
use Rattle.std.proofs.Common.{◌≡◌, ◌+◌, ◌-◌, ℕ, true, false, not, cond, List, [], ◌∷◌, ◌++◌}
use Rattle.std.proofs.Common.{length, take, drop, append_assoc, Some, None, Err, refl, sym, ap, ◌∙◌, arith, length-append}
use Rattle.std.proofs.lemmas.Bool.Decides.{nat_tests}
use Rattle.std.proofs.lemmas.List.{drop_at, take_at}
use Rattle.std.proofs.lemmas.List.Elements.{All-head, All-tail}
use Rattle.std.specs.Prelude.{nat_lt, position}
use Rattle.std.specs.List.{position_or_len}
use Rattle.std.specs.Option.{option_map_or}
use Rattle.reg_records.specs.Line.{is_line_feed, reading, reading_at_front}
use Rattle.reg_records.specs.Pieces.{HasNoLineFeed}
use Rattle.reg_records.specs.declared.line.LineError.TheVariants.{Truncated}

abbrev IsFree : ℕ → Type 0
IsFree b = is_line_feed b ≡ false

len_to_first : (line more : List ℕ) → HasNoLineFeed line → position_or_len is_line_feed (line ++ 10 ∷ more) ≡ length line
len_to_first [] more free = refl
len_to_first (b ∷ line) more free =
    ap (λ t. cond (not t) (1 + position_or_len is_line_feed (line ++ 10 ∷ more)) 0) (All-head IsFree b line free)
    ∙ omega (arith, len_to_first line more (All-tail IsFree b line free))

pub ends_at : (line more : List ℕ) → HasNoLineFeed line → position is_line_feed (line ++ 10 ∷ more) ≡ Some (length line)
ends_at line more free =
    let at = len_to_first line more free in
    let within : nat_lt (length line) (length (line ++ 10 ∷ more)) ≡ true =
    let size = length-append line (10 ∷ more) in grind (arith, nat_tests) in
    ap (λ (n : ℕ). cond (nat_lt n (length (line ++ 10 ∷ more))) (Some n) None) at
    ∙ ap (λ t. cond t (Some (length line)) None) within

-- what a line with its LF says
pub front_reading : (line : List ℕ) → HasNoLineFeed line → reading_at_front (line ++ 10 ∷ []) ≡ reading line
front_reading line free =
    ap (λ found. option_map_or (λ n. reading (take n (line ++ 10 ∷ []))) found (Err Truncated)) (ends_at line [] free)
    ∙ ap reading (take_at line (10 ∷ []) (length line) refl)

-- the bytes before the last one
pub without_end : (line bytes : List ℕ) → bytes ≡ line ++ 10 ∷ [] → take (length bytes - 1) bytes ≡ line
without_end line bytes is =
    ap (λ (l : List ℕ). take (length bytes - 1) l) is
    ∙ take_at line (10 ∷ []) (length bytes - 1) (omega (arith, ap length is, length-append line (10 ∷ [])))

-- the line with its LF, and what is left behind it
pub front_line : (bytes line rest : List ℕ) (len : ℕ) → bytes ≡ line ++ 10 ∷ rest
    → len ≡ length line → take (len + 1) bytes ≡ line ++ 10 ∷ []
front_line bytes line rest len is size =
    ap (λ (l : List ℕ). take (len + 1) l) (is ∙ sym (append_assoc line (10 ∷ []) rest))
    ∙ take_at (line ++ 10 ∷ []) rest (len + 1) (omega (arith, size, length-append line (10 ∷ [])))

pub left_behind : (bytes text line rest : List ℕ) (len : ℕ) → bytes ≡ text ++ 10 ∷ rest
    → line ≡ text ++ 10 ∷ [] → len ≡ length line → drop len bytes ≡ rest
left_behind bytes text line rest len is same size =
    ap (λ (l : List ℕ). drop len l) (is ∙ sym (append_assoc text (10 ∷ []) rest))
    ∙ drop_at (text ++ 10 ∷ []) rest len (sym (size ∙ ap length same))
