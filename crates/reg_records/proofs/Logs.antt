-- What a line is to the log that it begins.
use Rattle.std.proofs.Common.{◌≡◌, ◌<◌, ◌≤◌, ◌+◌, ◌*◌, ◌==◌, ℕ, suc, Bool, cond, true, false, List, [], ◌∷◌, ◌++◌, length, None, Some}
use Rattle.std.proofs.Common.{IfSome, OnSome, inl, inr, Result, Ok, Err, refl, sym, ap, ◌∙◌, arith, append_assoc, append-nil, nat_lt}
use Rattle.std.proofs.Common.{decimal, length-append}
use Rattle.std.specs.Prelude.{Option, count_by, max}
use Rattle.std.specs.Option.{option_to_list}
use Rattle.std.specs.Result.{result_map_both}
use Rattle.std.specs.List.{slice_split, onto_first, join_with_byte}
use Rattle.std.specs.Io.KnownBytes.{Consumes, IsAtEnd, Keeps}
use Rattle.std.proofs.lemmas.List.Splits.{slice_split_at, slice_split_none, join_with_byte-slice_split}
use Rattle.std.proofs.KnownBytes.{Consumes-trans}
use Rattle.std.proofs.lemmas.List.Sums.{fold-append, position_or_len_is, sum_by-append}
use Rattle.std.proofs.lemmas.List.Elements.{filter_map-append}
use Rattle.std.proofs.lemmas.Bool.{lt-ltb, ne_eqb}
use Rattle.std.proofs.lemmas.Bool.Decides.{nat_tests}
use Rattle.reg_records.proofs.Lines.{Consumes-ended}
use Rattle.reg_records.proofs.Tabs.{count_by-none}
use Rattle.reg_records.specs.Device.{all_reads_of, counted_by, faults_of, place_of}
use Rattle.reg_records.proofs.Floors.{floor_reading-text, is_floor_line-mark, one_line}
use Rattle.reg_records.specs.Floor.{floor_mark, floor_reading, floor_text, is_floor_line}
use Rattle.reg_records.specs.Line.{is_line_feed, reading}
use Rattle.reg_records.specs.Log.{LogText, floor_then, log_at, log_from, log_of, line_then, record_in, records_in, is_foreign}
use Rattle.reg_records.specs.Log.{offset_in, next_after, AreWholeLines, IsLogOf, IsLogRefusal, LosesLine}
use Rattle.reg_records.specs.Log.{ReadsFewTimes, TakesLastLine}
use Rattle.reg_records.specs.LogSteps.{AddsRead, BeginsLog, IsFirstRefusal, IsLineRefusal}
use Rattle.reg_records.specs.LogSteps.{IsStepRefusal, IsTakeRefusal, first_then, lines_then}
use Rattle.reg_records.specs.declared.device.Device.{Device}
use Rattle.reg_records.specs.declared.log.Log.{Log}
use Rattle.reg_records.specs.declared.log.LogError.{LogError}
use Rattle.reg_records.specs.declared.log.LogError.TheVariants as errors
use Rattle.reg_records.specs.Pieces.{HasNoLineFeed}
use Rattle.reg_records.specs.declared.limits.TheConstants.{LINE_LIMIT, LINE_READS, LOG_LINES, OFFSET_LIMIT}
use Rattle.reg_records.specs.declared.line.LineError.{LineError}
use Rattle.reg_records.specs.declared.line.LineError.TheVariants.{Truncated}
use Rattle.reg_records.specs.declared.log.LogFault.{LogFault}
use Rattle.reg_records.specs.declared.log.LogFault.TheVariants.{Line, TooManyLines}
use Rattle.reg_records.specs.declared.record.Read.{Read}
use Rattle.reg_records.specs.declared.record.Read.TheVariants as kinds

abbrev pub is_empty_line : List ℕ → Bool
is_empty_line line = length line == 0

abbrev pub with_read : Read → LogText → LogText
with_read read log = record log { reads = read ∷ log.reads }

abbrev pub map_log : (LogText → LogText) → Result LogText (ℕ × LogFault) → Result LogText (ℕ × LogFault)
map_log f more = result_map_both f (λ fault. fault) more

abbrev pub parts : List ℕ → List (List ℕ)
parts text = slice_split is_line_feed text

-- a text has a first part
pub first_part : (text : List ℕ) → (first : List ℕ) × (more : List (List ℕ)) × (parts text ≡ first ∷ more)
first_part [] = ([], [], refl)
first_part (b ∷ text) =
    elim (is_line_feed b) as (λ t.
    (first : List ℕ) × (more : List (List ℕ)) × (cond t ([] ∷ parts text) (onto_first b (parts text)) ≡ first ∷ more)) [
      | true ↦ ([], parts text, refl)
      | false ↦ let (first, more, e) = first_part text in (b ∷ first, more, ap (onto_first b) e)
    ]

-- a log has only so many lines
abbrev pub in_limit : Bool → ℕ → Result LogText (ℕ × LogFault) → Result LogText (ℕ × LogFault)
in_limit past n more = cond past (Err (n, TooManyLines)) more

-- a line, and the text after its LF
abbrev pub from_line : ℕ → List ℕ → List ℕ → Result LogText (ℕ × LogFault)
from_line n line text =
    cond (is_empty_line line) (Ok (record { floor = 0; reads = []; rest = text }))
    (in_limit (nat_lt LOG_LINES n) n (line_then n (reading line) (log_from (suc n) (parts text))))

log_from-parts : (n : ℕ) (line text : List ℕ) → log_from n (line ∷ parts text) ≡ from_line n line text
log_from-parts n line text =
    let (first, more, e) = first_part text in
    let joined : join_with_byte 10 (first ∷ more) ≡ text = ap (join_with_byte 10) (sym e) ∙ join_with_byte-slice_split 10 text in
    let some = ne_eqb (length (first ∷ more)) 0 (λ none. omega arith) in
    ap (λ lines. log_from n (line ∷ lines)) e
    ∙ ap (λ b. cond (is_empty_line line) (Ok (record { floor = 0; reads = []; rest = join_with_byte 10 (first ∷ more) }))
    (in_limit (nat_lt LOG_LINES n) n (line_then n (cond b (Err Truncated) (reading line)) (log_from (suc n) (first ∷ more))))) some
    ∙ ap (λ rest.
    cond (is_empty_line line) (Ok (record { floor = 0; reads = []; rest = rest }))
    (in_limit (nat_lt LOG_LINES n) n (line_then n (reading line) (log_from (suc n) (first ∷ more))))) joined
    ∙ ap
    (λ lines.
    cond (is_empty_line line) (Ok (record { floor = 0; reads = []; rest = text }))
    (in_limit (nat_lt LOG_LINES n) n (line_then n (reading line) (log_from (suc n) lines))))
    (sym e)

-- the log of a text that begins with a line and its LF
log_from-line : (n : ℕ) (text line rest : List ℕ) → HasNoLineFeed line
    → text ≡ (line ++ 10 ∷ []) ++ rest → log_from n (parts text) ≡ from_line n line rest
log_from-line n text line rest none e =
    ap (λ t. log_from n (parts t)) (e ∙ append_assoc line (10 ∷ []) rest)
    ∙ ap (log_from n) (slice_split_at is_line_feed line 10 rest none refl)
    ∙ log_from-parts n line rest

pub log_from-read : (n : ℕ) (old new : Option (List ℕ)) (line : List ℕ) (read : Read)
    → HasNoLineFeed line → Consumes old new (line ++ 10 ∷ []) → is_empty_line line ≡ false → reading line ≡ Ok read → n ≤ LOG_LINES
    → IfSome old (λ text. IfSome new (λ rest. log_from n (parts text) ≡ map_log (with_read read) (log_from (suc n) (parts rest))))
log_from-read n None new line read none taken some says within = tt
log_from-read n (Some text) None line read none taken some says within = absurd taken
log_from-read n (Some text) (Some rest) line read none taken some says within =
    let few : nat_lt LOG_LINES n ≡ false = grind (arith, nat_tests) in
    log_from-line n text line rest none taken
    ∙ ap (λ b.
    cond b (Ok (record { floor = 0; reads = []; rest = rest }))
    (in_limit (nat_lt LOG_LINES n) n (line_then n (reading line) (log_from (suc n) (parts rest))))) some
    ∙ ap (λ past. in_limit past n (line_then n (reading line) (log_from (suc n) (parts rest)))) few
    ∙ ap (λ r. line_then n r (log_from (suc n) (parts rest))) says

pub log_from-refused : (n : ℕ) (old new : Option (List ℕ)) (line : List ℕ) (fault : LogFault)
    → HasNoLineFeed line → Consumes old new (line ++ 10 ∷ []) → is_empty_line line ≡ false
    → ((more : Result LogText (ℕ × LogFault)) → in_limit (nat_lt LOG_LINES n) n (line_then n (reading line) more) ≡ Err (n, fault))
    → IfSome old (λ text. log_from n (parts text) ≡ Err (n, fault))
log_from-refused n None new line fault none taken some refused = tt
log_from-refused n (Some text) None line fault none taken some refused = absurd taken
log_from-refused n (Some text) (Some rest) line fault none taken some refused =
    log_from-line n text line rest none taken
    ∙ ap (λ b.
    cond b (Ok (record { floor = 0; reads = []; rest = rest }))
    (in_limit (nat_lt LOG_LINES n) n (line_then n (reading line) (log_from (suc n) (parts rest))))) some
    ∙ refused (log_from (suc n) (parts rest))

pub is_empty_line-some : (line : List ℕ) → 0 < length line → is_empty_line line ≡ false
is_empty_line-some line some = grind (arith, nat_tests)

fault_told : (n : ℕ) (fault : LineError) (past : Bool)
    → in_limit past n (Err (n, Line fault)) ≡ Err (n, cond past TooManyLines (Line fault))
fault_told n fault true = refl
fault_told n fault false = refl

pub log_from-unended : (n : ℕ) (old new : Option (List ℕ)) (line : List ℕ)
    → HasNoLineFeed line → 0 < length line → Consumes old new line → OnSome old (IsAtEnd new)
    → IfSome old (λ text. log_from n (parts text) ≡ Err (n, cond (nat_lt LOG_LINES n) TooManyLines (Line Truncated)))
log_from-unended n None new line none some taken end = tt
log_from-unended n (Some text) None line none some taken end = absurd taken
log_from-unended n (Some text) (Some rest) line none some taken end =
    let whole : text ≡ line = taken ∙ ap (λ r. line ++ r) end ∙ append-nil line in
    ap (λ t. log_from n (parts t)) whole
    ∙ ap (log_from n) (slice_split_none is_line_feed line none)
    ∙ ap (λ b. cond b (Ok (record { floor = 0; reads = []; rest = [] })) (in_limit (nat_lt LOG_LINES n) n (Err (n, Line Truncated))))
    (is_empty_line-some line some)
    ∙ fault_told n Truncated (nat_lt LOG_LINES n)

-- ---- how many LFs were taken

pub line_feeds-none : (bytes : List ℕ) → HasNoLineFeed bytes → count_by is_line_feed bytes ≡ 0
line_feeds-none bytes none =
    count_by-none is_line_feed bytes
    (position_or_len_is is_line_feed bytes (length bytes) 0 (omega arith) (λ k h. none k 0 h) (λ h. absurd (omega arith)))

pub line_feeds-append : (xs ys : List ℕ) → count_by is_line_feed (xs ++ ys) ≡ count_by is_line_feed xs + count_by is_line_feed ys
line_feeds-append xs ys = sum_by-append (λ b. cond (is_line_feed b) 1 0) xs ys

pub line_feeds-line : (line : List ℕ) → HasNoLineFeed line → count_by is_line_feed (line ++ 10 ∷ []) ≡ 1
line_feeds-line line none = omega (arith, line_feeds-append line (10 ∷ []), line_feeds-none line none)

-- ---- refusals

pub IsStepRefusal-line : {R : Type 0} (n : ℕ) (before after : Device R) (old new : Option (List ℕ)) (line : List ℕ) (e : LogError)
    → faults_of after ≡ faults_of before → HasNoLineFeed line → Consumes old new (line ++ 10 ∷ []) → is_empty_line line ≡ false
    → IsLineRefusal n line e → IsStepRefusal n before after old new e
IsStepRefusal-line n before after old new line (errors.Fault at fault) faults none taken some refused =
    (refused.0, faults, log_from-refused n old new line fault none taken some refused.1, line, none, inl taken)
IsStepRefusal-line n before after old new line (errors.ReadFault at) faults none taken some refused = absurd refused
IsStepRefusal-line n before after old new line errors.OutOfMemory faults none taken some refused = faults

pub IsStepRefusal-take : {R : Type 0} (n : ℕ) (before after : Device R) (old new : Option (List ℕ)) (e : LogError)
    → IsTakeRefusal n before after old new e → IsStepRefusal n before after old new e
IsStepRefusal-take n before after old new (errors.Fault at fault) (is, faults, told, taken, none, some, took, end) =
    (is, faults, rw told (log_from-unended n old new taken none some took end), taken, none, inr (took, end))
IsStepRefusal-take n before after old new (errors.ReadFault at) refused = refused
IsStepRefusal-take n before after old new errors.OutOfMemory refused = refused

-- ---- the first line

line_has_none : (n : ℕ) (said : Result Read LineError) (more : Result LogText (ℕ × LogFault))
    → lines_then 0 [] more ≡ more → lines_then 0 [] (line_then n said more) ≡ line_then n said more
line_has_none n (Err fault) more none = refl
line_has_none n (Ok read) (Ok log) none = ap (map_log (with_read read)) none
line_has_none n (Ok read) (Err fault) none = refl

-- only the first line says a floor
pub no_floor : (n : ℕ) (lines : List (List ℕ)) → lines_then 0 [] (log_from n lines) ≡ log_from n lines
no_floor n [] = refl
no_floor n (line ∷ lines) =
    elim (is_empty_line line) as (λ b.
    lines_then 0 [] (cond b (Ok (record { floor = 0; reads = []; rest = join_with_byte 10 lines })) (told (nat_lt LOG_LINES n)))
    ≡ cond b (Ok (record { floor = 0; reads = []; rest = join_with_byte 10 lines })) (told (nat_lt LOG_LINES n))) [
      | true ↦ refl
      | false ↦ elim (nat_lt LOG_LINES n) as (λ b. lines_then 0 [] (told b) ≡ told b) [
        | true ↦ refl
        | false ↦ line_has_none n (cond (length lines == 0) (Err Truncated) (reading line))
            (log_from (suc n) lines) (no_floor (suc n) lines)
      ]
    ]
  where
    told : Bool → Result LogText (ℕ × LogFault)
    told past = in_limit past n (line_then n (cond (length lines == 0) (Err Truncated) (reading line)) (log_from (suc n) lines))

pub first_line : (read : Read) (more : Result LogText (ℕ × LogFault)) → lines_then 0 [] more ≡ more
    → map_log (with_read read) more ≡ lines_then 0 (read ∷ []) more
first_line read (Ok log) none = ap (λ r. map_log (with_read read) r) (sym none)
first_line read (Err fault) none = refl

-- the log of a text that begins with a line and its LF
pub log_of-line : (text line rest : List ℕ) → HasNoLineFeed line → is_empty_line line ≡ false → text ≡ (line ++ 10 ∷ []) ++ rest
    → log_of text ≡ first_then line (log_from 2 (parts rest))
log_of-line text line rest none some e =
    let (first, more, split) = first_part rest in
    let lines = ne_eqb (length (first ∷ more)) 0 (λ none. omega arith) in
    ap (λ t. log_at (parts t)) (e ∙ append_assoc line (10 ∷ []) rest)
    ∙ ap log_at (slice_split_at is_line_feed line 10 rest none refl)
    ∙ ap (λ t.
    cond (is_floor_line line)
    (floor_then (cond (length (parts rest) == 0) (Err (Line Truncated)) (floor_reading line)) (log_from 2 (parts rest))) t)
    (log_from-parts 1 line rest
    ∙ ap (λ b. cond b (Ok (record { floor = 0; reads = []; rest = rest })) (line_then 1 (reading line) (log_from 2 (parts rest)))) some)
    ∙ ap (λ b.
    cond (is_floor_line line) (floor_then (cond b (Err (Line Truncated)) (floor_reading line)) (log_from 2 (parts rest)))
    (line_then 1 (reading line) (log_from 2 (parts rest))))
    (ap (λ lines. length lines == 0) split ∙ lines)

-- a line that says no floor, or is too long to say anything
pub first_then-line : (line : List ℕ) → (is_floor_line line ≡ true → LINE_LIMIT < length line) → (more : Result LogText (ℕ × LogFault))
    → first_then line more ≡ line_then 1 (reading line) more
first_then-line line long more =
    elim (is_floor_line line) as (λ b. is_floor_line line ≡ b
    → cond b (floor_then (floor_reading line) more) (line_then 1 (reading line) more) ≡ line_then 1 (reading line) more) [
      | true ↦ λ begins. let past = lt-ltb LINE_LIMIT (length line) (long begins) in rw past
      | false ↦ λ _. refl
    ] refl

pub IsFirstRefusal-line : (line : List ℕ) (e : LogError)
    → (is_floor_line line ≡ true → LINE_LIMIT < length line) → IsLineRefusal 1 line e → IsFirstRefusal line e
IsFirstRefusal-line line (errors.Fault at fault) long refused = (refused.0, λ more. first_then-line line long more ∙ refused.1 more)
IsFirstRefusal-line line (errors.ReadFault at) long refused = refused
IsFirstRefusal-line line errors.OutOfMemory long refused = refused

pub log_of-begun : (old new : Option (List ℕ)) (line : List ℕ) (floor : ℕ) (read : List Read)
    → HasNoLineFeed line → Consumes old new (line ++ 10 ∷ []) → is_empty_line line ≡ false
    → ((more : Result LogText (ℕ × LogFault)) → lines_then 0 [] more ≡ more → first_then line more ≡ lines_then floor read more)
    → IfSome old (λ text. IfSome new (λ rest. log_of text ≡ lines_then floor read (log_from 2 (parts rest))))
log_of-begun None new line floor read none taken some says = tt
log_of-begun (Some text) None line floor read none taken some says = absurd taken
log_of-begun (Some text) (Some rest) line floor read none taken some says =
    log_of-line text line rest none some taken ∙ says (log_from 2 (parts rest)) (no_floor 2 (parts rest))

pub log_of-refused : (old new : Option (List ℕ)) (line : List ℕ) (fault : LogFault)
    → HasNoLineFeed line → Consumes old new (line ++ 10 ∷ []) → is_empty_line line ≡ false
    → ((more : Result LogText (ℕ × LogFault)) → first_then line more ≡ Err (1, fault))
    → IfSome old (λ text. log_of text ≡ Err (1, fault))
log_of-refused None new line fault none taken some refused = tt
log_of-refused (Some text) None line fault none taken some refused = absurd taken
log_of-refused (Some text) (Some rest) line fault none taken some refused =
    log_of-line text line rest none some taken ∙ refused (log_from 2 (parts rest))

either_way : {A : Type 0} (b : Bool) (x : A) → cond b x x ≡ x
either_way true x = refl
either_way false x = refl

pub log_of-unended : (old new : Option (List ℕ)) (line : List ℕ)
    → HasNoLineFeed line → 0 < length line → Consumes old new line → OnSome old (IsAtEnd new)
    → IfSome old (λ text. log_of text ≡ Err (1, Line Truncated))
log_of-unended None new line none some taken end = tt
log_of-unended (Some text) None line none some taken end = absurd taken
log_of-unended (Some text) (Some rest) line none some taken end =
    let whole : text ≡ line = taken ∙ ap (λ r. line ++ r) end ∙ append-nil line in
    ap (λ t. log_at (parts t)) whole
    ∙ ap log_at (slice_split_none is_line_feed line none)
    ∙ ap
    (λ b.
    cond (is_floor_line line) (Err (1, Line Truncated))
    (cond b (Ok (record { floor = 0; reads = []; rest = [] })) (Err (1, Line Truncated))))
    (is_empty_line-some line some)
    ∙ either_way (is_floor_line line) (Err (1, Line Truncated))

-- ---- why a first line was refused

pub IsLogRefusal-take : {R : Type 0} (before after : Device R) (old new : Option (List ℕ)) (e : LogError)
    → IsTakeRefusal 1 before after old new e → ReadsFewTimes before after 1 → IsLogRefusal before after old new e
IsLogRefusal-take before after old new (errors.Fault at fault) (is, faults, told, taken, none, some, took, end) few = (
  faults,
  rw (is, told) (log_of-unended old new taken none some took end),
  taken,
  inr (took, end),
  omega (arith, is, line_feeds-none taken none),
  rw is few,
)
IsLogRefusal-take before after old new (errors.ReadFault at) (is, (lost, began, part, none, took)) few =
    (lost, [], part, took, inl refl, began, sym is, line_feeds-none part none, rw is few)
IsLogRefusal-take before after old new errors.OutOfMemory refused few = refused

pub IsLogRefusal-line : {R : Type 0} (before after : Device R) (old new : Option (List ℕ)) (line : List ℕ) (e : LogError)
    → faults_of after ≡ faults_of before → HasNoLineFeed line → Consumes old new (line ++ 10 ∷ []) → is_empty_line line ≡ false
    → IsFirstRefusal line e → ReadsFewTimes before after 1 → IsLogRefusal before after old new e
IsLogRefusal-line before after old new line (errors.Fault at fault) faults none taken some refused few = (
  faults,
  rw refused.0 (log_of-refused old new line fault none taken some refused.1),
  line,
  inl taken,
  omega (arith, refused.0, line_feeds-none line none),
  rw refused.0 few,
)
IsLogRefusal-line before after old new line (errors.ReadFault at) faults none taken some refused few = absurd refused
IsLogRefusal-line before after old new line errors.OutOfMemory faults none taken some refused few = faults

-- ---- where a log ends

-- the log is empty, and that is left
abbrev pub EndsLog : Option (List ℕ) → Option (List ℕ) → Type 0
EndsLog old new = IfSome old (λ text. (rest : List ℕ)
    × ((number : ℕ) → log_from number (parts text) ≡ Ok (record { floor = 0; reads = []; rest = rest }))
    × (log_of text ≡ Ok (record { floor = 0; reads = []; rest = rest })) × (new ≡ Some rest))

pub ends_log-at_end : (old new : Option (List ℕ)) → IsAtEnd old → Keeps old new → EndsLog old new
ends_log-at_end None new end kept = tt
ends_log-at_end (Some text) None end kept = absurd kept
ends_log-at_end (Some text) (Some rest) end kept =
    ([], λ number. ap (λ t. log_from number (parts t)) end, ap log_of end, ap Some (kept ∙ end))

pub ends_log-at_line : (old new : Option (List ℕ)) (line : List ℕ) → line ≡ [] → Consumes old new (line ++ 10 ∷ []) → EndsLog old new
ends_log-at_line None new line empty taken = tt
ends_log-at_line (Some text) None line empty taken = absurd taken
ends_log-at_line (Some text) (Some rest) line empty taken =
    let begins : text ≡ 10 ∷ rest = taken ∙ ap (λ l. (l ++ 10 ∷ []) ++ rest) empty in
    let joined : join_with_byte 10 (parts rest) ≡ rest = join_with_byte-slice_split 10 rest in (
      rest,
      λ number. ap (λ t. log_from number (parts t)) begins ∙ ap (λ r. Ok (record { floor = 0; reads = []; rest = r })) joined,
      ap (λ t. log_of t) begins ∙ ap (λ r. Ok (record { floor = 0; reads = []; rest = r })) joined,
      refl,
    )

-- ---- the lines so far

lines_then-more : (floor : ℕ) (reads : List Read) (read : Read) (more : Result LogText (ℕ × LogFault))
    → lines_then floor reads (map_log (with_read read) more) ≡ lines_then floor (reads ++ read ∷ []) more
lines_then-more floor reads read (Ok log) =
    ap (λ all. Ok (record { floor = floor; reads = all; rest = log.rest })) (sym (append_assoc reads (read ∷ []) log.reads))
lines_then-more floor reads read (Err fault) = refl

-- what is read of the old text so far, and what is left of it
abbrev pub GoesOn : Option (List ℕ) → Option (List ℕ) → ℕ → List Read → ℕ → Type 0
GoesOn old now floor reads n = IfSome old (λ text. IfSome now (λ rest. log_of text ≡ lines_then floor reads (log_from n (parts rest))))

pub GoesOn-more : (old mid new : Option (List ℕ)) (floor : ℕ) (reads : List Read) (read : Read) (n : ℕ) (taken : List ℕ)
    → GoesOn old mid floor reads n
    → Consumes old mid taken
    → IfSome mid (λ text. IfSome new (λ rest. log_from n (parts text) ≡ map_log (with_read read) (log_from (suc n) (parts rest))))
    → GoesOn old new floor (reads ++ read ∷ []) (suc n)
GoesOn-more None mid new floor reads read n taken so_far took step = tt
GoesOn-more (Some text) None new floor reads read n taken so_far took step = absurd took
GoesOn-more (Some text) (Some left) None floor reads read n taken so_far took step = tt
GoesOn-more (Some text) (Some left) (Some rest) floor reads read n taken so_far took step =
    so_far ∙ ap (lines_then floor reads) step ∙ lines_then-more floor reads read (log_from (suc n) (parts rest))

records_in-append : (reads : List Read) (read : Read)
    → records_in (reads ++ read ∷ []) ≡ records_in reads ++ option_to_list (record_in read)
records_in-append reads read = filter_map-append record_in reads (read ∷ []) ∙ ap (λ last. records_in reads ++ last) (last_record read)
  where
    last_record : (r : Read) → records_in (r ∷ []) ≡ option_to_list (record_in r)
    last_record (kinds.Record r) = refl
    last_record (kinds.Foreign offset) = refl

next_after-append : (reads : List Read) (read : Read) → next_after (reads ++ read ∷ []) ≡ max (next_after reads) (suc (offset_in read))
next_after-append reads read = fold-append (λ next r. max next (suc (offset_in r))) 0 reads (read ∷ [])

pub IsLogOf-more : (old : Log) (floor : ℕ) (reads : List Read) (read : Read) (new : Log)
    → IsLogOf floor reads old → AddsRead old read new → IsLogOf floor (reads ++ read ∷ []) new
IsLogOf-more old floor reads read new is adds = record {
  records = adds.records ∙ ap (λ all. all ++ option_to_list (record_in read)) is.records ∙ sym (records_in-append reads read);
  foreign = adds.foreign ∙ omega (arith, is.foreign, sum_by-append (λ r. cond (is_foreign r) 1 0) reads (read ∷ []));
  floor = adds.floor ∙ is.floor;
  next = omega (arith, adds.next, is.next, next_after-append reads read);
}

OnSome-end : (old now new : Option (List ℕ)) (taken : List ℕ) → Consumes old now taken → OnSome now (IsAtEnd new) → OnSome old (IsAtEnd new)
OnSome-end None now new taken took end = tt
OnSome-end (Some text) None new taken took end = absurd took
OnSome-end (Some text) (Some rest) new taken took end = end

TakesLastLine-after : (old now new : Option (List ℕ)) (taken part : List ℕ)
    → Consumes old now taken → TakesLastLine now new part → TakesLastLine old new (taken ++ part)
TakesLastLine-after old now new taken part took last = elim last [
  | inl ended ↦ inl (Consumes-ended old now new taken part took ended)
  | inr whole ↦ inr (Consumes-trans old now new taken part took whole.0, OnSome-end old now new taken took whole.1)
]

LosesLine-after : {R : Type 0} (before mid after : Device R)
    → faults_of mid ≡ faults_of before → counted_by 0 (all_reads_of before) ≤ all_reads_of mid
    → LosesLine mid after → LosesLine before after
LosesLine-after before mid after faults reads lost = elim lost [
  | inl counted ↦ inl (omega (arith, faults, counted))
  | inr many ↦ inr (many.0 ∙ faults, many.1, omega (arith, reads, many.2))
]

-- a log has as many lines as records and foreign lines
lines_in : (reads : List Read) → length (records_in reads) + count_by is_foreign reads ≡ length reads
lines_in [] = refl
lines_in (kinds.Record r ∷ reads) =
    one_record _ (length (records_in reads)) (count_by is_foreign reads) (length reads) _ refl
    (sum_by-append (λ x. cond (is_foreign x) 1 0) (kinds.Record r ∷ []) reads) (lines_in reads)
  where
    one_record : (first records foreign lines both : ℕ) → first ≡ 0 → both ≡ first + foreign
        → records + foreign ≡ lines → suc records + both ≡ suc lines
    one_record first records foreign lines both none sum e = omega (arith, none, sum, e)
lines_in (kinds.Foreign offset ∷ reads) =
    one_foreign _ (length (records_in reads)) (count_by is_foreign reads) (length reads) _ refl
    (sum_by-append (λ x. cond (is_foreign x) 1 0) (kinds.Foreign offset ∷ []) reads) (lines_in reads)
  where
    one_foreign : (first records foreign lines both : ℕ) → first ≡ 1
        → both ≡ first + foreign → records + foreign ≡ lines → records + both ≡ suc lines
    one_foreign first records foreign lines both one sum e = omega (arith, one, sum, e)

pub log_lines : (old new : Log) (floor : ℕ) (reads : List Read) → IsLogOf floor reads old
    → new ≡ old → length new.records.items + new.foreign ≡ length reads
log_lines old new floor reads is same =
    ap (λ (log : Log). length log.records.items + log.foreign) same
    ∙ ap (λ records. length records + old.foreign) is.records ∙ ap (λ n. length (records_in reads) + n) is.foreign ∙ lines_in reads

-- one line more
pub AreWholeLines-more : (lines line : List ℕ) → AreWholeLines (lines ++ (line ++ 10 ∷ []))
AreWholeLines-more lines line = inr (lines ++ line, sym (append_assoc lines line (10 ∷ [])))

pub IsLogRefusal-step : {R : Type 0} (n : ℕ) (before mid after : Device R)
    (old now new : Option (List ℕ)) (floor : ℕ) (reads : List Read) (taken : List ℕ) (e : LogError)
    → GoesOn old now floor reads n → Consumes old now taken → count_by is_line_feed taken + 1 ≡ n
    → AreWholeLines taken → counted_by 0 (place_of mid) ≡ counted_by (length taken) (place_of before)
    → faults_of mid ≡ faults_of before → counted_by 0 (all_reads_of before) ≤ all_reads_of mid
    → all_reads_of mid + LINE_READS ≤ all_reads_of before + n * LINE_READS → ReadsFewTimes mid after 1
    → IsStepRefusal n mid after now new e → IsLogRefusal before after old new e
IsLogRefusal-step n before mid after old now new floor reads taken
    (errors.Fault line fault) so_far took count whole place faults least most few step =
    let (is, same, first, part, none, last) = step in (
      same ∙ faults,
      refused old now so_far took first,
      taken ++ part,
      TakesLastLine-after old now new taken part took last,
      omega (arith, is, count, line_feeds-append taken part, line_feeds-none part none),
      rw is (omega (arith, most, few)),
    )
  where
    refused : (old now : Option (List ℕ)) → GoesOn old now floor reads n → Consumes old now taken
        → IfSome now (λ text. log_from n (parts text) ≡ Err (n, fault)) → IfSome old (λ text. log_of text ≡ Err (line, fault))
    refused None now so_far took e = tt
    refused (Some text) None so_far took e = absurd took
    refused (Some text) (Some rest) so_far took e = so_far ∙ ap (lines_then floor reads) e ∙ ap (λ k. Err (k, fault)) (sym step.0)
IsLogRefusal-step n before mid after old now new floor reads taken
    (errors.ReadFault line) so_far took count whole place faults least most few step =
    let (is, (lost, began, part, none, read)) = step in (
      LosesLine-after before mid after faults least lost,
      taken,
      part,
      Consumes-trans old now new taken part took read,
      whole,
      began ∙ place,
      count ∙ sym is,
      line_feeds-none part none,
      rw is (omega (arith, most, few)),
    )
IsLogRefusal-step n before mid after old now new floor reads taken
    errors.OutOfMemory so_far took count whole place faults least most few step =
    step ∙ faults

-- a log of one line
pub BeginsLog-line : (line : List ℕ) (old : Log) (read : Read) (new : Log) → (is_floor_line line ≡ true → LINE_LIMIT < length line)
    → IsLogOf 0 [] old → AddsRead old read new → reading line ≡ Ok read → BeginsLog line new
BeginsLog-line line old read new long is adds says = (
  0,
  read ∷ [],
  IsLogOf-more old 0 [] read new is adds,
  omega arith,
  λ more none. first_then-line line long more ∙ ap (λ r. line_then 1 r more) says ∙ first_line read more none,
)

-- the log that begins with the line of a floor
pub log_of-written_floor : (floor : ℕ) → floor ≤ OFFSET_LIMIT → (rest : List ℕ)
    → log_of ((floor_text floor ++ 10 ∷ []) ++ rest) ≡ floor_then (Ok floor) (log_from 2 (parts rest))
log_of-written_floor floor fits rest =
    let line = floor_text floor in
    log_of-line ((line ++ 10 ∷ []) ++ rest) line rest (one_line floor fits)
    (is_empty_line-some line (omega (arith, length-append floor_mark (decimal floor)))) refl
    ∙ ap (λ b. cond b (floor_then (floor_reading line) (log_from 2 (parts rest))) (line_then 1 (reading line) (log_from 2 (parts rest))))
    (is_floor_line-mark (decimal floor))
    ∙ ap (λ said. floor_then said (log_from 2 (parts rest))) (floor_reading-text floor fits)
