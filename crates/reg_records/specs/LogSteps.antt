-- Private: how a log is read line by line.
use Rattle.std.specs.Prelude.{◌≡◌, ⊤, ℕ, suc, ◌+◌, ◌<◌, ◌≤◌, max, List, [], ◌∷◌, ◌++◌, length, Bool, true, false}
use Rattle.std.specs.Prelude.{Option, None, Some, IfSome, OnSome, Result, Ok, Err, count_by, nat_lt, if◌then◌else◌}
use Rattle.std.specs.Option.{option_to_list}
use Rattle.std.specs.List.{slice_split}
use Rattle.std.specs.Result.{result_map_both}
use Rattle.std.specs.Io.KnownBytes.{Consumes, IsAtEnd}
use Rattle.reg_records.specs.Device.{Source, Takes, faults_of}
use Rattle.reg_records.specs.Floor.{is_floor_line, floor_reading}
use Rattle.reg_records.specs.Line.{is_line_feed, reading}
use Rattle.reg_records.specs.Log.{LogText, log_from, log_of, floor_then, line_then}
use Rattle.reg_records.specs.Log.{record_in, is_foreign, offset_in}
use Rattle.reg_records.specs.Log.{IsLogOf, TakesLastLine}
use Rattle.reg_records.specs.Pieces.{HasNoLineFeed, Holds, LeavesLine}
use Rattle.reg_records.specs.declared.pieces.LineBuffer.{LineBuffer}
use Rattle.reg_records.specs.declared.device.Device.{Device}
use Rattle.reg_records.specs.declared.limits.TheConstants.{LOG_LINES}
use Rattle.reg_records.specs.declared.log.Log.{Log}
use Rattle.reg_records.specs.declared.log.LogError.{LogError}
use Rattle.reg_records.specs.declared.log.LogFault.{LogFault}
use Rattle.reg_records.specs.declared.log.LogFault.TheVariants.{Line, TooManyLines}
use Rattle.reg_records.specs.declared.line.LineError.TheVariants.{Truncated}
use Rattle.reg_records.specs.declared.log.LogError.TheVariants as errors
use Rattle.reg_records.specs.declared.record.Read.{Read}

-- the new log is the old one with what a line says
pub record AddsRead (old : Log) (read : Read) (new : Log) : Type 0 where
  pub records : new.records.items ≡ old.records.items ++ option_to_list (record_in read)
  pub foreign : new.foreign ≡ old.foreign + (if is_foreign read then 1 else 0)
  pub floor : new.floor ≡ old.floor
  pub next : new.next ≡ max old.next (suc (offset_in read))

-- a line was taken that has some bytes, for which the buffer stands, or the log has ended
abbrev pub TakesLogLine : Source → Source → Option LineBuffer → Type 0
TakesLogLine old new (Some buffer) = (line : List ℕ) × HasNoLineFeed line × (0 < length line)
    × Takes old new (line ++ 10 ∷ []) × Holds buffer line
TakesLogLine old new None = IfSome old.known (λ text. (rest : List ℕ)
    × ((number : ℕ) → log_from number (slice_split is_line_feed text) ≡ Ok (record { floor = 0; reads = []; rest = rest }))
    × (log_of text ≡ Ok (record { floor = 0; reads = []; rest = rest })) × (new.known ≡ Some rest))

-- why no line of that number was taken: the bytes that were left have no LF, or the reader was lost
abbrev pub IsTakeRefusal : {R : Type 0} → ℕ → Device R → Device R → Option (List ℕ) → Option (List ℕ) → LogError → Type 0
IsTakeRefusal number before after old new (errors.Fault line fault) =
    (line ≡ number) × (faults_of after ≡ faults_of before) × (fault ≡ (if nat_lt LOG_LINES number then TooManyLines else Line Truncated))
    × (taken : List ℕ) × HasNoLineFeed taken × (0 < length taken) × Consumes old new taken × OnSome old (IsAtEnd new)
IsTakeRefusal number before after old new (errors.ReadFault line) = (line ≡ number) × LeavesLine before after old new
IsTakeRefusal number before after old new errors.OutOfMemory = faults_of after ≡ faults_of before

-- a log's first line, before what the lines after it say
abbrev pub first_then : List ℕ → Result LogText (ℕ × LogFault) → Result LogText (ℕ × LogFault)
first_then line more = if is_floor_line line then floor_then (floor_reading line) more else line_then 1 (reading line) more

-- that floor and these lines, before what the lines after them say
abbrev pub lines_then : ℕ → List Read → Result LogText (ℕ × LogFault) → Result LogText (ℕ × LogFault)
lines_then floor read more = result_map_both
    (λ (log : LogText). record { floor = floor; reads = read ++ log.reads; rest = log.rest }) (λ fault. fault) more

-- what a log's first line makes of it: its floor, or one line; no line after it says a floor
abbrev pub BeginsLog : List ℕ → Log → Type 0
BeginsLog line log = (floor : ℕ) × (read : List Read) × IsLogOf floor read log × (length read ≤ 1)
    × ((more : Result LogText (ℕ × LogFault)) → lines_then 0 [] more ≡ more → first_then line more ≡ lines_then floor read more)

-- why a first line that was taken whole says nothing
abbrev pub IsFirstRefusal : List ℕ → LogError → Type 0
IsFirstRefusal bytes (errors.Fault line fault) = (line ≡ 1)
    × ((more : Result LogText (ℕ × LogFault)) → first_then bytes more ≡ Err (1, fault))
IsFirstRefusal bytes (errors.ReadFault line) = ⊥
IsFirstRefusal bytes errors.OutOfMemory = ⊤

-- what became of the first line: the log goes on, or it ends there
abbrev pub StartsLog : Source → Source → Log → Bool → Type 0
StartsLog old new log true =
    (floor : ℕ) × (read : List Read) × IsLogOf floor read log × (length read ≤ 1)
    × ((line : List ℕ) × Takes old new (line ++ 10 ∷ []) × (count_by is_line_feed line ≡ 0))
    × IfSome old.known (λ text. IfSome new.known (λ rest. log_of text ≡ lines_then floor read (log_from 2 (slice_split is_line_feed rest))))
StartsLog old new log false = IsLogOf 0 [] log × IfSome old.known (λ text. (rest : List ℕ)
    × (log_of text ≡ Ok (record { floor = 0; reads = []; rest = rest })) × (new.known ≡ Some rest))

-- what became of the line of that number: it says something and the log goes on, or the log ends there
abbrev pub StepsLog : ℕ → Source → Source → Log → Log → Bool → Type 0
StepsLog number old new before after true =
    (number ≤ LOG_LINES) × (read : Read) × AddsRead before read after
    × ((line : List ℕ) × Takes old new (line ++ 10 ∷ []) × (count_by is_line_feed line ≡ 0))
    × IfSome old.known (λ text. IfSome new.known (λ rest. log_from number (slice_split is_line_feed text)
    ≡ result_map_both (λ (log : LogText). record log { reads = read ∷ log.reads }) (λ fault. fault)
    (log_from (suc number) (slice_split is_line_feed rest))))
StepsLog number old new before after false =
    (after ≡ before) × IfSome old.known (λ text. (rest : List ℕ)
    × (log_from number (slice_split is_line_feed text) ≡ Ok (record { floor = 0; reads = []; rest = rest })) × (new.known ≡ Some rest))

-- why the line of that number was refused
abbrev pub IsStepRefusal : {R : Type 0} → ℕ → Device R → Device R → Option (List ℕ) → Option (List ℕ) → LogError → Type 0
IsStepRefusal number before after old new (errors.Fault line fault) =
    (line ≡ number) × (faults_of after ≡ faults_of before)
    × IfSome old (λ text. log_from number (slice_split is_line_feed text) ≡ Err (number, fault))
    × (taken : List ℕ) × HasNoLineFeed taken × TakesLastLine old new taken
IsStepRefusal number before after old new (errors.ReadFault line) = (line ≡ number) × LeavesLine before after old new
IsStepRefusal number before after old new errors.OutOfMemory = faults_of after ≡ faults_of before

-- why a line that was taken whole says nothing
abbrev pub IsLineRefusal : ℕ → List ℕ → LogError → Type 0
IsLineRefusal number bytes (errors.Fault line fault) = (line ≡ number) × ((more : Result LogText (ℕ × LogFault))
    → (if nat_lt LOG_LINES number then Err (number, TooManyLines) else line_then number (reading bytes) more) ≡ Err (number, fault))
IsLineRefusal number bytes (errors.ReadFault line) = ⊥
IsLineRefusal number bytes errors.OutOfMemory = ⊤
