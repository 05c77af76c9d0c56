-- What read_log reads of lines and an empty one, and what it has read where it was content.
use Rattle.std.proofs.Common.{◌≡◌, ◌⊎◌, inl, inr, ⊎_elim, ◌<◌, ◌≤◌, ◌+◌, ◌==◌, ℕ, suc, Bool, cond, true, false, List, [], ◌∷◌, ◌++◌, length}
use Rattle.std.proofs.Common.{Result, Ok, Err, refl, sym, ap, subst, ◌∙◌, arith, append_assoc, append-nil, decimal, length-append}
use Rattle.std.proofs.Common.{nat_lt, true≢false}
use Rattle.std.specs.Prelude.{⊤}
use Rattle.std.specs.Result.{result_map_both}
use Rattle.std.specs.List.{slice_split, onto_first, join_with_byte}
use Rattle.std.proofs.lemmas.List.Splits.{slice_split_at, join_with_byte-slice_split, length-slice_split}
use Rattle.std.proofs.lemmas.List.Elements.{All-nil, All-cons}
use Rattle.std.proofs.lemmas.Bool.{ne_eqb, eqb-true}
use Rattle.std.proofs.lemmas.Bool.Decides.{nat_tests}
use Rattle.reg_records.proofs.Floors.{floor_reading-text, is_floor_line-mark, is_floor_line-text, not_floor_line, of_reading, one_line}
use Rattle.reg_records.specs.Floor.{floor_reading, floor_text, is_floor_line}
use Rattle.reg_records.specs.Line.{is_line_feed, reading}
use Rattle.reg_records.specs.Log.{LogText, floor_then, line_then, log_at, log_from, log_of}
use Rattle.reg_records.specs.Pieces.{HasNoLineFeed}
use Rattle.reg_records.specs.declared.limits.TheConstants.{LOG_LINES, OFFSET_LIMIT}
use Rattle.reg_records.specs.declared.line.LineError.{LineError}
use Rattle.reg_records.specs.declared.line.LineError.TheVariants.{Truncated}
use Rattle.reg_records.specs.declared.log.LogFault.{LogFault}
use Rattle.reg_records.specs.declared.log.LogFault.TheVariants.{Line, TooManyLines}
use Rattle.reg_records.specs.declared.record.Read.{Read}
use Rattle.reg_journal.specs.Lines.{Said, said, text_of, EndedLinesAreRead, LinesAreRead, LogsAreLines, Say, SayLog, SaysFloor}

abbrev pub Outcome : Type 0
Outcome = Result LogText (ℕ × LogFault)

abbrev parts : List ℕ → List (List ℕ)
parts text = slice_split is_line_feed text

abbrev with_read : Read → LogText → LogText
with_read read log = record log { reads = read ∷ log.reads }

-- a line of the log: whether it is empty, too many, and the last
abbrev from_tests : Bool → Bool → Bool → ℕ → List (List ℕ) → Result Read LineError → Outcome → Outcome
from_tests empty past last n lines says more = cond empty (Ok (record { floor = 0; reads = []; rest = join_with_byte 10 lines }))
    (cond past (Err (n, TooManyLines)) (line_then n (cond last (Err Truncated) says) more))

abbrev ended_with_reads : List Read → List ℕ → Outcome
ended_with_reads read rest = Ok (record { floor = 0; reads = read; rest = rest })

abbrev ended_with : List ℕ → Outcome
ended_with rest = Ok (record { floor = 0; reads = []; rest = rest })

-- lines that say something, and an empty one, are a log
pub log_of_lines : (n : ℕ) (lines : List (List ℕ)) (read : List Read) (rest : List ℕ) → Say lines read → n + length read ≤ LOG_LINES + 1
    → log_from n (parts (text_of lines ++ 10 ∷ rest)) ≡ Ok (record { floor = 0; reads = read; rest = rest })
log_of_lines n [] [] rest say few =
    ap (log_from n) (slice_split_at is_line_feed [] 10 rest (All-nil (λ b. is_line_feed b ≡ false)) refl)
    ∙ ap ended_with (join_with_byte-slice_split 10 rest)
log_of_lines n [] (r ∷ read) rest say few = absurd say
log_of_lines n (line ∷ lines) [] rest say few = absurd say
log_of_lines n (line ∷ lines) (r ∷ read) rest say few =
    let text = text_of lines ++ 10 ∷ rest in
    let some : (length line == 0) ≡ false = ne_eqb (length line) 0 (λ none. omega (arith, say.0)) in
    let within : nat_lt LOG_LINES n ≡ false = grind (arith, nat_tests) in
    let more : (length (parts text) == 0) ≡ false =
    ne_eqb (length (parts text)) 0 (λ none. omega (arith, length-slice_split is_line_feed text)) in
    ap (λ (l : List ℕ). log_from n (parts l)) (append_assoc line (10 ∷ text_of lines) (10 ∷ rest))
    ∙ ap (log_from n) (slice_split_at is_line_feed line 10 text say.1 refl)
    ∙ ap (λ b.
    from_tests b (nat_lt LOG_LINES n) (length (parts text) == 0) n (parts text) (reading line) (log_from (suc n) (parts text))) some
    ∙ ap (λ b. from_tests false b (length (parts text) == 0) n (parts text) (reading line) (log_from (suc n) (parts text))) within
    ∙ ap (λ b. from_tests false false b n (parts text) (reading line) (log_from (suc n) (parts text))) more
    ∙ ap (λ says. line_then n says (log_from (suc n) (parts text))) say.2
    ∙ ap (λ (found : Outcome). result_map_both (with_read r) (λ fault. fault) found)
    (log_of_lines (suc n) lines read rest say.3 (omega arith))

log_of_only : (n : ℕ) (lines : List (List ℕ)) (read : List Read) → Say lines read → n + length read ≤ LOG_LINES + 1
    → log_from n (parts (text_of lines)) ≡ Ok (record { floor = 0; reads = read; rest = [] })
log_of_only n [] [] say few = refl
log_of_only n [] (r ∷ read) say few = absurd say
log_of_only n (line ∷ lines) [] say few = absurd say
log_of_only n (line ∷ lines) (r ∷ read) say few =
    let text = text_of lines in
    let some : (length line == 0) ≡ false = ne_eqb (length line) 0 (λ none. omega (arith, say.0)) in
    let within : nat_lt LOG_LINES n ≡ false = grind (arith, nat_tests) in
    let more : (length (parts text) == 0) ≡ false =
    ne_eqb (length (parts text)) 0 (λ none. omega (arith, length-slice_split is_line_feed text)) in
    ap (log_from n) (slice_split_at is_line_feed line 10 text say.1 refl)
    ∙ ap (λ b.
    from_tests b (nat_lt LOG_LINES n) (length (parts text) == 0) n (parts text) (reading line) (log_from (suc n) (parts text))) some
    ∙ ap (λ b. from_tests false b (length (parts text) == 0) n (parts text) (reading line) (log_from (suc n) (parts text))) within
    ∙ ap (λ b. from_tests false false b n (parts text) (reading line) (log_from (suc n) (parts text))) more
    ∙ ap (λ says. line_then n says (log_from (suc n) (parts text))) say.2
    ∙ ap (λ (found : Outcome). result_map_both (with_read r) (λ fault. fault) found) (log_of_only (suc n) lines read say.3 (omega arith))

-- a line and what stands behind its LF
parts-line : (line more : List ℕ) → HasNoLineFeed line → parts (line ++ 10 ∷ more) ≡ line ∷ parts more
parts-line line more none = slice_split_at is_line_feed line 10 more none refl

-- a first line that says something is no floor's
plain_first : (lines : List (List ℕ)) (read : List Read) (tail : List ℕ) → Say lines read → log_of tail ≡ log_from 1 (parts tail)
    → log_of (text_of lines ++ tail) ≡ log_from 1 (parts (text_of lines ++ tail))
plain_first [] [] tail say plain = plain
plain_first [] (r ∷ read) tail say plain = absurd say
plain_first (line ∷ lines) [] tail say plain = absurd say
plain_first (line ∷ lines) (r ∷ read) tail say plain =
    let more = text_of lines ++ tail in
    let split : parts ((line ++ 10 ∷ text_of lines) ++ tail) ≡ line ∷ parts more =
    ap parts (append_assoc line (10 ∷ text_of lines) tail) ∙ parts-line line more say.1 in
    ap log_at split
    ∙ ap (λ b.
    cond b (floor_then (cond (length (parts more) == 0) (Err (Line Truncated)) (floor_reading line)) (log_from 2 (parts more)))
    (log_from 1 (line ∷ parts more)))
    (not_floor_line line r say.2)
    ∙ ap (log_from 1) (sym split)

floor_first : (floor : ℕ) (more : List ℕ) → floor ≤ OFFSET_LIMIT
    → log_of (floor_text floor ++ 10 ∷ more) ≡ floor_then (Ok floor) (log_from 2 (parts more))
floor_first floor more fits =
    let line = floor_text floor in
    let some : (length (parts more) == 0) ≡ false =
    ne_eqb (length (parts more)) 0 (λ none. omega (arith, length-slice_split is_line_feed more)) in
    ap log_at (parts-line line more (one_line floor fits))
    ∙ ap (λ b.
    cond b (floor_then (cond (length (parts more) == 0) (Err (Line Truncated)) (floor_reading line)) (log_from 2 (parts more)))
    (log_from 1 (line ∷ parts more)))
    (is_floor_line-mark (decimal floor))
    ∙ ap (λ b. floor_then (cond b (Err (Line Truncated)) (floor_reading line)) (log_from 2 (parts more))) some
    ∙ ap (λ says. floor_then says (log_from 2 (parts more))) (floor_reading-text floor fits)

-- lines behind a floor's or none, and a tail behind them
log_of_all : (front others : List (List ℕ)) (floor : ℕ) (read : List Read) (tail rest : List ℕ)
    → SaysFloor front floor → Say others read → length front + length read ≤ LOG_LINES → log_of tail ≡ log_from 1 (parts tail)
    → ((n : ℕ) → n + length read ≤ LOG_LINES + 1 → log_from n (parts (text_of others ++ tail)) ≡ ended_with_reads read rest)
    → log_of (text_of (front ++ others) ++ tail) ≡ Ok (record { floor = floor; reads = read; rest = rest })
log_of_all [] others floor read tail rest is say few plain from =
    plain_first others read tail say plain ∙ from 1 (omega arith) ∙ ap (λ f. Ok (record { floor = f; reads = read; rest = rest })) (sym is)
log_of_all (line ∷ []) others floor read tail rest is say few plain from =
    ap log_of (ap (λ (l : List ℕ). (l ++ 10 ∷ text_of others) ++ tail) is.0 ∙ append_assoc (floor_text floor) (10 ∷ text_of others) tail)
    ∙ floor_first floor (text_of others ++ tail) is.1
    ∙ ap (floor_then (Ok floor)) (from 2 (omega arith))
log_of_all (line ∷ next ∷ front) others floor read tail rest is say few plain from = absurd is

pub Say-length : (lines : List (List ℕ)) (read : List Read) → Say lines read → length lines ≡ length read
Say-length [] [] say = refl
Say-length [] (r ∷ read) say = absurd say
Say-length (line ∷ lines) [] say = absurd say
Say-length (line ∷ lines) (r ∷ read) say = omega (arith, Say-length lines read say.3)

-- how many lines say a floor and these
pub SayLog-length : (lines : List (List ℕ)) (floor : ℕ) (read : List Read) (s : SayLog lines floor read)
    → length lines ≡ length s.front + length read
SayLog-length lines floor read s = omega (arith, ap length s.parts, length-append s.front s.others, Say-length s.others read s.say)

-- whether one of them is a floor's, as their text tells
front_told : (front others : List (List ℕ)) (floor : ℕ) (read : List Read) (tail : List ℕ) → SaysFloor front floor → Say others read
    → length front ≡ cond (is_floor_line (text_of (front ++ others) ++ 10 ∷ tail)) 1 0
front_told [] [] floor read tail is say = refl
front_told [] (line ∷ others) floor [] tail is say = absurd say
front_told [] (line ∷ others) floor (r ∷ read) tail is say =
    let begins =
    ap is_floor_line (append_assoc line (10 ∷ text_of others) (10 ∷ tail))
    ∙ is_floor_line-text line (text_of others ++ 10 ∷ tail)
    ∙ not_floor_line line r say.2 in
    rw begins
front_told (line ∷ []) others floor read tail is say =
    let begins =
    ap is_floor_line (append_assoc line (10 ∷ text_of others) (10 ∷ tail)) ∙ is_floor_line-text line (text_of others ++ 10 ∷ tail)
    ∙ ap is_floor_line is.0 ∙ is_floor_line-mark (decimal floor) in
    rw begins
front_told (line ∷ next ∷ front) others floor read tail is say = absurd is

-- how many lines a text has, as what it says and its beginning tell
pub lines_told : (lines : List (List ℕ)) (floor : ℕ) (read : List Read) (tail : List ℕ) → SayLog lines floor read
    → length lines ≡ length read + cond (is_floor_line (text_of lines ++ 10 ∷ tail)) 1 0
lines_told lines floor read tail s =
    let front =
    front_told s.front s.others floor read tail s.floor s.say
    ∙ ap (λ (l : List (List ℕ)). cond (is_floor_line (text_of l ++ 10 ∷ tail)) 1 0) (sym s.parts) in
    omega (arith, SayLog-length lines floor read s, front)

pub lines_are_read : LinesAreRead
lines_are_read lines floor read s few =
    ap log_of (sym (append-nil (text_of lines)) ∙ ap (λ (l : List (List ℕ)). text_of l ++ []) s.parts)
    ∙ log_of_all s.front s.others floor read [] [] s.floor s.say (omega (arith, few, SayLog-length lines floor read s)) refl
    (λ n within. ap (λ (l : List ℕ). log_from n (parts l)) (append-nil (text_of s.others)) ∙ log_of_only n s.others read s.say within)

pub ended_lines_are_read : EndedLinesAreRead
ended_lines_are_read lines floor read rest s few =
    ap (λ (l : List (List ℕ)). log_of (text_of l ++ 10 ∷ rest)) s.parts
    ∙ log_of_all s.front s.others floor read (10 ∷ rest) rest s.floor s.say (omega (arith, few, SayLog-length lines floor read s)) refl
    (λ n within. log_of_lines n s.others read rest s.say within)

abbrev pub said_in : Outcome → Result Said (ℕ × LogFault)
said_in found = result_map_both (λ (log : LogText). record { floor = log.floor; reads = log.reads }) (λ fault. fault) found

pub said_by_lines : (lines : List (List ℕ)) (floor : ℕ) (read : List Read) (rest : List ℕ)
    → SayLog lines floor read → length lines ≤ LOG_LINES
    → said (text_of lines ++ 10 ∷ rest) ≡ Ok (record { floor = floor; reads = read })
said_by_lines lines floor read rest s few = ap said_in (ended_lines_are_read lines floor read rest s few)

-- lines behind lines
pub text_of-append : (lines more : List (List ℕ)) → text_of (lines ++ more) ≡ text_of lines ++ text_of more
text_of-append [] more = refl
text_of-append (line ∷ lines) more =
    ap (λ (l : List ℕ). line ++ 10 ∷ l) (text_of-append lines more) ∙ sym (append_assoc line (10 ∷ text_of lines) (text_of more))

pub Say-append : (lines more : List (List ℕ)) (read next : List Read) → Say lines read → Say more next → Say (lines ++ more) (read ++ next)
Say-append [] more [] next say then = then
Say-append [] more (r ∷ read) next say then = absurd say
Say-append (line ∷ lines) more [] next say then = absurd say
Say-append (line ∷ lines) more (r ∷ read) next say then = (say.0, say.1, say.2, Say-append lines more read next say.3 then)

pub SayLog-append : (lines more : List (List ℕ)) (floor : ℕ) (read next : List Read)
    → SayLog lines floor read → Say more next → SayLog (lines ++ more) floor (read ++ next)
SayLog-append lines more floor read next s then = record {
  front = s.front;
  others = s.others ++ more;
  parts = ap (λ (l : List (List ℕ)). l ++ more) s.parts ∙ append_assoc s.front s.others more;
  floor = s.floor;
  say = Say-append s.others more read next s.say then;
}

-- the parts of a text have no LF
abbrev AllFree : List (List ℕ) → Type 0
AllFree [] = ⊤
AllFree (part ∷ parts) = HasNoLineFeed part × AllFree parts

free-onto_first : (b : ℕ) (lines : List (List ℕ)) → is_line_feed b ≡ false → AllFree lines → AllFree (onto_first b lines)
free-onto_first b [] other free = (All-cons (λ x. is_line_feed x ≡ false) b [] other (All-nil (λ x. is_line_feed x ≡ false)), tt)
free-onto_first b (line ∷ lines) other free = (All-cons (λ x. is_line_feed x ≡ false) b line other free.0, free.1)

free_cond : (b : ℕ) (lines : List (List ℕ)) (t : Bool) → is_line_feed b ≡ t
    → AllFree lines → AllFree (cond t ([] ∷ lines) (onto_first b lines))
free_cond b lines true is free = (All-nil (λ x. is_line_feed x ≡ false), free)
free_cond b lines false is free = free-onto_first b lines is free

free_parts : (text : List ℕ) → AllFree (parts text)
free_parts [] = (All-nil (λ x. is_line_feed x ≡ false), tt)
free_parts (b ∷ text) = free_cond b (parts text) (is_line_feed b) refl (free_parts text)

-- lines that say this, and an empty line with the rest behind it, or the end of the text
pub record Shape (n : ℕ) (text : List ℕ) (log : LogText) : Type 0 where
  pub lines : List (List ℕ)
  pub say : Say lines log.reads
  pub few : n + length log.reads ≤ LOG_LINES + 1
  pub plain : log.floor ≡ 0
  pub whole : (text ≡ text_of lines ++ 10 ∷ log.rest) ⊎ ((text ≡ text_of lines) × (log.rest ≡ []))

abbrev HasShape : ℕ → List ℕ → Outcome → Type 0
HasShape n text (Ok log) = Shape n text log
HasShape n text (Err fault) = ⊤

shape_step : (n : ℕ) (line : List ℕ) (lines : List (List ℕ)) (empty past last : Bool) (says : Result Read LineError) (more : Outcome)
    → n ≤ LOG_LINES + 1 → HasNoLineFeed line → (length line == 0) ≡ empty
    → nat_lt LOG_LINES n ≡ past → (length lines == 0) ≡ last → reading line ≡ says
    → (n ≤ LOG_LINES → HasShape (suc n) (join_with_byte 10 lines) more)
    → HasShape n (join_with_byte 10 (line ∷ lines)) (from_tests empty past last n lines says more)
shape_step n [] [] true past last says more fits free empty over end reads next =
    record { lines = []; say = tt; few = omega arith; plain = refl; whole = inr (refl, refl) }
shape_step n [] (l ∷ lines) true past last says more fits free empty over end reads next =
    record { lines = []; say = tt; few = omega arith; plain = refl; whole = inl refl }
shape_step n (b ∷ line) lines true past last says more fits free empty over end reads next = absurd (omega (arith, eqb-true _ _ empty))
shape_step n line lines false true last says more fits free empty over end reads next = tt
shape_step n line lines false false true says more fits free empty over end reads next = tt
shape_step n line lines false false false (Err fault) more fits free empty over end reads next = tt
shape_step n line lines false false false (Ok read) (Err fault) fits free empty over end reads next = tt
shape_step n line [] false false false (Ok read) (Ok log) fits free empty over end reads next = absurd (true≢false end)
shape_step n line (l ∷ lines) false false false (Ok read) (Ok log) fits free empty over end reads next =
    let within : n ≤ LOG_LINES = grind (arith, nat_tests) in
    let some : 0 < length line = grind (arith, nat_tests) in
    let shape = next within in
    record {
      lines = line ∷ shape.lines;
      say = (some, free, reads, shape.say);
      few = omega (arith, shape.few);
      plain = shape.plain;
      whole = ⊎_elim
          (λ is. inl (ap (λ (t : List ℕ). line ++ 10 ∷ t) is ∙ sym (append_assoc line (10 ∷ text_of shape.lines) (10 ∷ log.rest))))
          (λ is. inr (ap (λ (t : List ℕ). line ++ 10 ∷ t) is.0, is.1))
          shape.whole;
    }

shape_of_parts : (n : ℕ) (lines : List (List ℕ)) → n ≤ LOG_LINES + 1
    → AllFree lines → HasShape n (join_with_byte 10 lines) (log_from n lines)
shape_of_parts n [] fits free = record { lines = []; say = tt; few = omega arith; plain = refl; whole = inr (refl, refl) }
shape_of_parts n (line ∷ lines) fits free =
    shape_step n line lines (length line == 0) (nat_lt LOG_LINES n) (length lines == 0) (reading line) (log_from (suc n) lines)
    fits free.0 refl refl refl refl (λ within. shape_of_parts (suc n) lines (omega arith) free.1)

-- the lines of a whole text
pub record Whole (text : List ℕ) (log : LogText) : Type 0 where
  pub lines : List (List ℕ)
  pub say : SayLog lines log.floor log.reads
  pub few : length lines ≤ LOG_LINES
  pub whole : (text ≡ text_of lines ++ 10 ∷ log.rest) ⊎ ((text ≡ text_of lines) × (log.rest ≡ []))

abbrev HasWhole : List ℕ → Outcome → Type 0
HasWhole text (Ok log) = Whole text log
HasWhole text (Err fault) = ⊤

-- where the first line is no floor's
plain_whole : (text : List ℕ) (found : Outcome) → HasShape 1 text found → HasWhole text found
plain_whole text (Ok log) s = record {
  lines = s.lines;
  say = record { front = []; others = s.lines; parts = refl; floor = s.plain; say = s.say };
  few = omega (arith, s.few, Say-length s.lines log.reads s.say);
  whole = s.whole;
}
plain_whole text (Err fault) s = tt

-- and where it is
floor_whole : (line : List ℕ) (lines : List (List ℕ)) (last : Bool) (says : Result ℕ LogFault) (more : Outcome)
    → is_floor_line line ≡ true → (length lines == 0) ≡ last → floor_reading line ≡ says → HasShape 2 (join_with_byte 10 lines) more
    → HasWhole (join_with_byte 10 (line ∷ lines)) (floor_then (cond last (Err (Line Truncated)) says) more)
floor_whole line lines true says more begins end reads next = tt
floor_whole line lines false (Err fault) more begins end reads next = tt
floor_whole line lines false (Ok floor) (Err fault) begins end reads next = tt
floor_whole line [] false (Ok floor) (Ok log) begins end reads next = absurd (true≢false end)
floor_whole line (l ∷ lines) false (Ok floor) (Ok log) begins end reads next = record {
  lines = line ∷ next.lines;
  say = record { front = line ∷ []; others = next.lines; parts = refl; floor = of_reading line floor begins reads; say = next.say };
  few = omega (arith, next.few, Say-length next.lines log.reads next.say);
  whole = ⊎_elim
      (λ is. inl (ap (λ (t : List ℕ). line ++ 10 ∷ t) is ∙ sym (append_assoc line (10 ∷ text_of next.lines) (10 ∷ log.rest))))
      (λ is. inr (ap (λ (t : List ℕ). line ++ 10 ∷ t) is.0, is.1))
      next.whole;
}

whole_of_parts : (lines : List (List ℕ)) → AllFree lines → HasWhole (join_with_byte 10 lines) (log_at lines)
whole_of_parts [] free = plain_whole [] (log_from 1 []) (shape_of_parts 1 [] (omega arith) free)
whole_of_parts (line ∷ lines) free =
    elim (is_floor_line line) as (λ b. is_floor_line line ≡ b → HasWhole (join_with_byte 10 (line ∷ lines))
    (cond b (floor_then (cond (length lines == 0) (Err (Line Truncated)) (floor_reading line)) (log_from 2 lines))
    (log_from 1 (line ∷ lines)))) [
      | true ↦ λ begins.
          floor_whole line lines (length lines == 0) (floor_reading line)
          (log_from 2 lines) begins refl refl (shape_of_parts 2 lines (omega arith) free.1)
      | false ↦ λ _.
          plain_whole (join_with_byte 10 (line ∷ lines)) (log_from 1 (line ∷ lines)) (shape_of_parts 1 (line ∷ lines) (omega arith) free)
    ] refl

pub whole : (text : List ℕ) (log : LogText) → log_of text ≡ Ok log → Whole text log
whole text log is =
    subst (λ (found : Outcome). HasWhole text found) is
    (subst (λ (t : List ℕ). HasWhole t (log_of text)) (join_with_byte-slice_split 10 text) (whole_of_parts (parts text) (free_parts text)))

pub logs_are_lines : LogsAreLines
logs_are_lines text log is = let w = whole text log is in (w.lines, w.say, w.few, w.whole)
