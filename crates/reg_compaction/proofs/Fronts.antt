-- The line at the front of a text.
use Rattle.std.proofs.Common.{◌≡◌, ◌⊎◌, ⊎_elim, ◌+◌, ℕ, true, false, not, cond, List, [], ◌∷◌, ◌++◌, length, take, drop, decimal}
use Rattle.std.proofs.Common.{Some, None, Ok, Err, refl, sym, ap, ◌∙◌, arith, append_assoc, append-nil, length-append}
use Rattle.std.proofs.lemmas.Bool.Decides.{nat_tests}
use Rattle.std.proofs.lemmas.List.{drop_at, take_at}
use Rattle.std.proofs.lemmas.List.Elements.{All-head, All-tail}
use Rattle.std.specs.Prelude.{position, nat_lt}
use Rattle.std.specs.List.{position_or_len}
use Rattle.std.specs.Option.{option_map_or}
use Rattle.reg_journal.specs.Lines.{Say, SaysFloor, text_of}
use Rattle.reg_records.proofs.Floors.{is_floor_line-mark, is_floor_line-text, not_floor_line, one_line}
use Rattle.reg_records.specs.Floor.{floor_text, is_floor_line}
use Rattle.reg_records.specs.Line.{is_line_feed, reading, reading_at_front}
use Rattle.reg_records.specs.Pieces.{HasNoLineFeed}
use Rattle.reg_records.specs.declared.line.LineError.TheVariants.{Truncated}
use Rattle.reg_records.specs.declared.record.Read.{Read}
use Rattle.reg_compaction.specs.Fronts.{floor_len}

len_to_first : (line more : List ℕ) → HasNoLineFeed line → position_or_len is_line_feed (line ++ 10 ∷ more) ≡ length line
len_to_first [] more free = refl
len_to_first (b ∷ line) more free =
    ap (λ t. cond (not t) (1 + position_or_len is_line_feed (line ++ 10 ∷ more)) 0) (All-head (λ b. is_line_feed b ≡ false) b line free)
    ∙ omega (arith, len_to_first line more (All-tail (λ b. is_line_feed b ≡ false) b line free))

pub ends_at : (line more : List ℕ) → HasNoLineFeed line → position is_line_feed (line ++ 10 ∷ more) ≡ Some (length line)
ends_at line more free =
    let at = len_to_first line more free in
    let within : nat_lt (length line) (length (line ++ 10 ∷ more)) ≡ true =
    let size = length-append line (10 ∷ more) in grind (arith, nat_tests) in
    ap (λ (n : ℕ). cond (nat_lt n (length (line ++ 10 ∷ more))) (Some n) None) at
    ∙ ap (λ t. cond t (Some (length line)) None) within

pub says : (line more : List ℕ) (read : Read) → HasNoLineFeed line → reading line ≡ Ok read → reading_at_front (line ++ 10 ∷ more) ≡ Ok read
says line more read free is =
    ap (λ found. option_map_or (λ n. reading (take n (line ++ 10 ∷ more))) found (Err Truncated)) (ends_at line more free)
    ∙ ap reading (take_at line (10 ∷ more) (length line) refl)
    ∙ is

-- ---- the line of a floor

said_plain : (text : List ℕ) → is_floor_line text ≡ false → floor_len text ≡ 0
said_plain text plain = ap (λ b. cond b (option_map_or (λ n. n + 1) (position is_line_feed text) 0) 0) plain

-- lines behind a floor's or none, and what can't be taken for one behind them
pub floor_len-parts : (front others : List (List ℕ)) (floor : ℕ) (read : List Read) (tail : List ℕ)
    → SaysFloor front floor → Say others read → is_floor_line tail ≡ false
    → floor_len (text_of (front ++ others) ++ tail) ≡ length (text_of front)
floor_len-parts [] [] floor [] tail is say plain = said_plain tail plain
floor_len-parts [] [] floor (r ∷ read) tail is say plain = absurd say
floor_len-parts [] (line ∷ others) floor [] tail is say plain = absurd say
floor_len-parts [] (line ∷ others) floor (r ∷ read) tail is say plain =
    said_plain (text_of (line ∷ others) ++ tail)
    (ap is_floor_line (append_assoc line (10 ∷ text_of others) tail)
    ∙ is_floor_line-text line (text_of others ++ tail)
    ∙ not_floor_line line r say.2)
floor_len-parts (line ∷ []) others floor read tail is say plain =
    let more = text_of others ++ tail in
    let begins : is_floor_line (line ++ 10 ∷ more) ≡ true =
    is_floor_line-text line more ∙ ap is_floor_line is.0 ∙ is_floor_line-mark (decimal floor) in
    let ends : position is_line_feed (line ++ 10 ∷ more) ≡ Some (length line) =
    ap (λ l. position is_line_feed (l ++ 10 ∷ more)) is.0
    ∙ ends_at (floor_text floor) more (one_line floor is.1)
    ∙ ap (λ l. Some (length l)) (sym is.0) in
    ap floor_len (append_assoc line (10 ∷ text_of others) tail)
    ∙ ap (λ b. cond b (option_map_or (λ n. n + 1) (position is_line_feed (line ++ 10 ∷ more)) 0) 0) begins
    ∙ ap (λ found. option_map_or (λ n. n + 1) found 0) ends
    ∙ omega (arith, length-append line (10 ∷ []))
floor_len-parts (line ∷ next ∷ front) others floor read tail is say plain = absurd is

pub text_of-append : (lines more : List (List ℕ)) → text_of (lines ++ more) ≡ text_of lines ++ text_of more
text_of-append [] more = refl
text_of-append (line ∷ lines) more =
    ap (λ (l : List ℕ). line ++ 10 ∷ l) (text_of-append lines more) ∙ sym (append_assoc line (10 ∷ text_of lines) (text_of more))

pub Say-length : (lines : List (List ℕ)) (read : List Read) → Say lines read → length lines ≡ length read
Say-length [] [] say = refl
Say-length [] (r ∷ read) say = absurd say
Say-length (line ∷ lines) [] say = absurd say
Say-length (line ∷ lines) (r ∷ read) say = omega (arith, Say-length lines read say.3)

-- a text that was split behind it
module _ (front others : List (List ℕ)) (floor : ℕ) (read : List Read) (tail text : List ℕ)
    (is : SaysFloor front floor) (say : Say others read) (plain : is_floor_line tail ≡ false)
    (parts : text ≡ text_of (front ++ others) ++ tail) where
  whole : text ≡ text_of front ++ (text_of others ++ tail)
  whole = parts ∙ ap (λ (l : List ℕ). l ++ tail) (text_of-append front others) ∙ append_assoc (text_of front) (text_of others) tail

  len : floor_len text ≡ length (text_of front)
  len = ap floor_len parts ∙ floor_len-parts front others floor read tail is say plain

  pub split_front : take (floor_len text) text ≡ text_of front
  split_front =
      ap (λ n. take n text) len
      ∙ ap (take (length (text_of front))) whole
      ∙ take_at (text_of front) (text_of others ++ tail) (length (text_of front)) refl

  pub split_behind : drop (floor_len text) text ≡ text_of others ++ tail
  split_behind =
      ap (λ n. drop n text) len
      ∙ ap (drop (length (text_of front))) whole
      ∙ drop_at (text_of front) (text_of others ++ tail) (length (text_of front)) refl

-- what stands behind the lines of a log can't be taken for a floor's line
pub behind : (text : List ℕ) (lines : List (List ℕ)) (rest : List ℕ)
    → (text ≡ text_of lines ++ 10 ∷ rest) ⊎ ((text ≡ text_of lines) × (rest ≡ []))
    → (tail : List ℕ) × (text ≡ text_of lines ++ tail) × (is_floor_line tail ≡ false)
behind text lines rest ends = ⊎_elim (λ is. (10 ∷ rest, is, refl)) (λ is. ([], is.0 ∙ sym (append-nil (text_of lines)), refl)) ends
