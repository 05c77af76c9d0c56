-- The line at the front of a text, and the faults that it may have.
use Rattle.std.proofs.Common.{◌≡◌, ◌<◌, ◌≤◌, ◌+◌, ◌==◌, ℕ, suc, Bool, cond, true, false, List, [], ◌∷◌, ◌++◌, length, take, drop, get_or}
use Rattle.std.proofs.Common.{Option, Some, None, Result, Ok, Err, inl, inr, refl, sym, ap, ◌∙◌, arith, append_assoc, nat_lt, length-take}
use Rattle.std.specs.List.{join_with_byte, position_or_len, slice_split}
use Rattle.std.specs.Option.{option_map_or}
use Rattle.std.specs.Prelude.{position}
use Rattle.std.specs.Result.{result_map_both}
use Rattle.std.proofs.Math.Seq.{drop-cons}
use Rattle.std.proofs.lemmas.Bool.{cases_lt, eqb-true, lt-ltb, ne_eqb, true≢false}
use Rattle.std.proofs.lemmas.Bool.Decides.{nat_tests}
use Rattle.std.proofs.lemmas.List.{get_or-take, length-take-le, take-append-drop}
use Rattle.std.proofs.lemmas.List.Elements.{All-from_get_or, All-head, All-tail}
use Rattle.std.proofs.lemmas.List.Quantifiers.{position-Some}
use Rattle.std.proofs.lemmas.List.Splits.{length-slice_split, slice_split_at, slice_split_none}
use Rattle.std.proofs.lemmas.List.Sums.{fails_before_first}
use Rattle.std.proofs.lemmas.Option.{none-some}
use Rattle.reg_journal.specs.Lines.{Say, text_of}
use Rattle.reg_records.specs.Line.{is_line_feed, reading, reading_at_front}
use Rattle.reg_records.specs.Log.{LogText, line_then, log_from}
use Rattle.reg_records.specs.Pieces.{HasNoLineFeed}
use Rattle.reg_records.specs.declared.limits.TheConstants.{LOG_LINES}
use Rattle.reg_records.specs.declared.line.LineError.{LineError}
use Rattle.reg_records.specs.declared.line.LineError.TheVariants.{Truncated}
use Rattle.reg_records.specs.declared.log.LogFault.{LogFault}
use Rattle.reg_records.specs.declared.log.LogFault.TheVariants.{Line, TooManyLines}
use Rattle.reg_records.specs.declared.record.Read.{Read}

abbrev pub parts : List ℕ → List (List ℕ)
parts text = slice_split is_line_feed text

-- a line and what stands behind its LF
pub parts-line : (line more : List ℕ) → HasNoLineFeed line → parts (line ++ 10 ∷ more) ≡ line ∷ parts more
parts-line line more free = slice_split_at is_line_feed line 10 more free refl

-- bytes without LF
pub parts-none : (text : List ℕ) → HasNoLineFeed text → parts text ≡ text ∷ []
parts-none text free = slice_split_none is_line_feed text free

-- a text has some parts
pub has_parts : (text : List ℕ) → (length (parts text) == 0) ≡ false
has_parts text = ne_eqb (length (parts text)) 0 (λ none. omega (arith, length-slice_split is_line_feed text))

-- ---- where the first LF stands

pub record Cut (text : List ℕ) (end : ℕ) : Type 0 where
  pub within : end < length text
  pub behind : List ℕ
  pub is : text ≡ take end text ++ 10 ∷ behind
  pub free : HasNoLineFeed (take end text)
  pub size : length (take end text) ≡ end

pub cut_at : (text : List ℕ) (end : ℕ) → position is_line_feed text ≡ Some end → Cut text end
cut_at text end at =
    let found = position-Some is_line_feed text end 0 at in
    record {
      within = found.0;
      behind = drop (suc end) text;
      is = sym (take-append-drop end text)
          ∙ ap (λ (l : List ℕ). take end text ++ l)
          (drop-cons text end 0 found.0 ∙ ap (λ b. b ∷ drop (suc end) text) (eqb-true _ _ found.1));
      free = All-from_get_or (λ b. is_line_feed b ≡ false) (take end text) 0 (λ k h.
          let below : k < end = omega (arith, length-take end text, h) in
          rw (get_or-take end text k 0 below) (found.2 k below));
      size = length-take-le end text (omega (arith, found.0));
    }

pub no_line_feed : (text : List ℕ) → position is_line_feed text ≡ None → HasNoLineFeed text
no_line_feed text e =
    let past : length text ≤ position_or_len is_line_feed text = unless_within _ _ e in
    λ k d h. fails_before_first is_line_feed text k d (omega arith)
  where
    unless_within : (n m : ℕ) → cond (nat_lt n m) (Some n) None ≡ None → m ≤ n
    unless_within n m none =
        elim (cases_lt n m) [
          | inl below ↦ absurd (none-some n (sym none ∙ ap (λ b. cond b (Some n) None) (lt-ltb n m below)))
          | inr past ↦ past
        ]

-- bytes with an LF have one
pub has_line_feed : (line more : List ℕ) → HasNoLineFeed (line ++ 10 ∷ more) → ⊥
has_line_feed [] more free = true≢false (All-head (λ b. is_line_feed b ≡ false) 10 more free)
has_line_feed (b ∷ line) more free = has_line_feed line more (All-tail (λ b. is_line_feed b ≡ false) b (line ++ 10 ∷ more) free)

-- two first lines of one text
pub same_first : (line more other behind : List ℕ) → HasNoLineFeed line
    → HasNoLineFeed other → line ++ 10 ∷ more ≡ other ++ 10 ∷ behind → line ≡ other
same_first line more other behind free free' is =
    let both : line ∷ parts more ≡ other ∷ parts behind = sym (parts-line line more free) ∙ ap parts is ∙ parts-line other behind free' in
    cc

-- ---- faults

abbrev pub Outcome : Type 0
Outcome = Result LogText (ℕ × LogFault)

abbrev with_read : Read → LogText → LogText
with_read read log = record log { reads = read ∷ log.reads }

-- a line of the log: whether it is empty, too many, and the last
abbrev from_tests : Bool → Bool → Bool → ℕ → List (List ℕ) → Result Read LineError → Outcome → Outcome
from_tests empty past last n lines says more = cond empty (Ok (record { floor = 0; reads = []; rest = join_with_byte 10 lines }))
    (cond past (Err (n, TooManyLines)) (line_then n (cond last (Err Truncated) says) more))

-- a line that has some bytes
module _ (n : ℕ) (line : List ℕ) (lines : List (List ℕ)) (some : 0 < length line) where
  filled : (length line == 0) ≡ false
  filled = ne_eqb (length line) 0 (λ none. omega (arith, some))

  pub too_many : LOG_LINES < n → log_from n (line ∷ lines) ≡ Err (n, TooManyLines)
  too_many over =
      let past : nat_lt LOG_LINES n ≡ true = lt-ltb LOG_LINES n over in
      ap (λ b. from_tests b (nat_lt LOG_LINES n) (length lines == 0) n lines (reading line) (log_from (suc n) lines)) filled
      ∙ ap (λ b. from_tests false b (length lines == 0) n lines (reading line) (log_from (suc n) lines)) past

  pub within : n ≤ LOG_LINES
      → log_from n (line ∷ lines) ≡ line_then n (cond (length lines == 0) (Err Truncated) (reading line)) (log_from (suc n) lines)
  within few =
      let past : nat_lt LOG_LINES n ≡ false = grind (arith, nat_tests) in
      ap (λ b. from_tests b (nat_lt LOG_LINES n) (length lines == 0) n lines (reading line) (log_from (suc n) lines)) filled
      ∙ ap (λ b. from_tests false b (length lines == 0) n lines (reading line) (log_from (suc n) lines)) past

-- bytes without LF
pub truncated : (n : ℕ) (text : List ℕ) → 0 < length text → n ≤ LOG_LINES
    → HasNoLineFeed text → log_from n (parts text) ≡ Err (n, Line Truncated)
truncated n text some few free = ap (log_from n) (parts-none text free) ∙ within n text [] some few

-- a line that says nothing
pub faulty : (n : ℕ) (line behind : List ℕ) (fault : LineError) → 0 < length line
    → n ≤ LOG_LINES → HasNoLineFeed line → reading line ≡ Err fault
    → log_from n (parts (line ++ 10 ∷ behind)) ≡ Err (n, Line fault)
faulty n line behind fault some few free is =
    ap (log_from n) (parts-line line behind free)
    ∙ within n line (parts behind) some few
    ∙ ap (λ b. line_then n (cond b (Err Truncated) (reading line)) (log_from (suc n) (parts behind))) (has_parts behind)
    ∙ ap (λ says. line_then n says (log_from (suc n) (parts behind))) is

-- a fault behind lines that say something
pub fault_behind : (n : ℕ) (lines : List (List ℕ)) (read : List Read) (tail : List ℕ) (line : ℕ) (fault : LogFault)
    → Say lines read → n + length lines ≤ LOG_LINES + 1 → log_from (n + length lines) (parts tail) ≡ Err (line, fault)
    → log_from n (parts (text_of lines ++ tail)) ≡ Err (line, fault)
fault_behind n [] [] tail at fault say few is = ap (λ k. log_from k (parts tail)) (omega arith) ∙ is
fault_behind n [] (r ∷ read) tail at fault say few is = absurd say
fault_behind n (line ∷ lines) [] tail at fault say few is = absurd say
fault_behind n (line ∷ lines) (r ∷ read) tail at fault say few is =
    let text = text_of lines ++ tail in
    let later =
    fault_behind (suc n) lines read tail at fault say.3 (omega (arith, few)) (ap (λ k. log_from k (parts tail)) (omega arith) ∙ is) in
    ap (λ (l : List ℕ). log_from n (parts l)) (append_assoc line (10 ∷ text_of lines) tail)
    ∙ ap (log_from n) (parts-line line text say.1)
    ∙ within n line (parts text) say.0 (omega (arith, few))
    ∙ ap (λ b. line_then n (cond b (Err Truncated) (reading line)) (log_from (suc n) (parts text))) (has_parts text)
    ∙ ap (λ says. line_then n says (log_from (suc n) (parts text))) say.2
    ∙ ap (λ (found : Outcome). result_map_both (with_read r) (λ f. f) found) later

-- ---- a text whose first byte is no LF

pub some_before : (text : List ℕ) (end : ℕ) → position is_line_feed text ≡ Some end → (get_or text 0 0 ≡ 10 → ⊥) → 0 < end
some_before text end at other = elim (cases_lt 0 end) [
  | inl some ↦ some
  | inr none ↦
      let found = position-Some is_line_feed text end 0 at in
      let front : end ≡ 0 = omega (arith, none) in
      absurd (other (ap (λ k. get_or text k 0) (sym front) ∙ eqb-true _ _ found.1))
]

-- what the line at the front says
pub read_front : (text : List ℕ) (end : ℕ) (says : Result Read LineError)
    → position is_line_feed text ≡ Some end → reading_at_front text ≡ says → reading (take end text) ≡ says
read_front text end says at is = sym (ap (λ (found : Option ℕ). option_map_or (λ n. reading (take n text)) found (Err Truncated)) at) ∙ is

pub nothing : (text : List ℕ) → (length text == 0) ≡ true → text ≡ []
nothing [] is = refl
nothing (b ∷ text) is = absurd (omega (arith, eqb-true _ _ is))
