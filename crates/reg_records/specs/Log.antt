-- A log is the lines of a text up to an empty line or the end of the text; the first may say its floor.
use Rattle.std.specs.Prelude.{◌≡◌, ◌⊎◌, ℕ, suc, ◌+◌, ◌*◌, ◌≤◌, max, List, [], ◌∷◌, ◌++◌, Bool, ◌==◌, nat_lt, length}
use Rattle.std.specs.Prelude.{count_by, fold, Option, Some, None, is_none, IfSome, OnSome, Result, Ok, Err, if◌then◌else◌}
use Rattle.std.specs.List.{filter_map, join_with_byte, slice_split}
use Rattle.std.specs.Result.{result_map_both}
use Rattle.std.specs.Io.KnownBytes.{Consumes, IsAtEnd}
use Rattle.reg_records.specs.Device.{BeganAfter, HasReadMore, all_reads_of, counted, faults_of, reads_of}
use Rattle.reg_records.specs.Floor.{is_floor_line, floor_reading}
use Rattle.reg_records.specs.Line.{is_line_feed, reading}
use Rattle.reg_records.specs.declared.device.Device.{Device}
use Rattle.reg_records.specs.declared.log.Log.{Log}
use Rattle.reg_records.specs.declared.log.LogError.{LogError}
use Rattle.reg_records.specs.declared.log.LogError.TheVariants as errors
use Rattle.reg_records.specs.declared.limits.TheConstants.{LOG_LINES, LINE_READS}
use Rattle.reg_records.specs.declared.line.LineError.{LineError}
use Rattle.reg_records.specs.declared.line.LineError.TheVariants.{Truncated}
use Rattle.reg_records.specs.declared.log.LogFault.{LogFault}
use Rattle.reg_records.specs.declared.log.LogFault.TheVariants as faults
use Rattle.reg_records.specs.declared.record.Record.{Record}
use Rattle.reg_records.specs.declared.record.Read.{Read}
use Rattle.reg_records.specs.declared.record.Read.TheVariants as reads

-- what the lines of a log say: its floor, 0 where none says one, and what the
-- others say, in their order; and the bytes after its empty line
pub record LogText : Type 0 where
  pub floor : ℕ
  pub reads : List Read
  pub rest : List ℕ

-- what a line says, before what the lines after it say; the first fault is reported with its line's number
abbrev pub line_then : ℕ → Result Read LineError → Result LogText (ℕ × LogFault) → Result LogText (ℕ × LogFault)
line_then number (Err fault) more = Err (number, faults.Line fault)
line_then number (Ok read) more = result_map_both (λ (log : LogText). record log { reads = read ∷ log.reads }) (λ fault. fault) more

-- the log that begins with the line of that number; a line past the most that a log has
-- is one too many, whatever it says, and the last line has no LF
abbrev pub log_from : ℕ → List (List ℕ) → Result LogText (ℕ × LogFault)
log_from number [] = Ok (record { floor = 0; reads = []; rest = [] })
log_from number (line ∷ lines) = if length line == 0 then Ok (record { floor = 0; reads = []; rest = join_with_byte 10 lines })
    else (if nat_lt LOG_LINES number then Err (number, faults.TooManyLines)
    else line_then number (if length lines == 0 then Err Truncated else reading line) (log_from (suc number) lines))

-- the floor that the first line says, before what the lines after it say
abbrev pub floor_then : Result ℕ LogFault → Result LogText (ℕ × LogFault) → Result LogText (ℕ × LogFault)
floor_then (Err fault) more = Err (1, fault)
floor_then (Ok floor) more = result_map_both (λ (log : LogText). record log { floor = floor }) (λ fault. fault) more

-- the log of some lines: where the first one begins as a floor's, it says the floor
abbrev pub log_at : List (List ℕ) → Result LogText (ℕ × LogFault)
log_at [] = log_from 1 []
log_at (line ∷ lines) = if is_floor_line line
    then floor_then (if length lines == 0 then Err (faults.Line Truncated) else floor_reading line) (log_from 2 lines)
    else log_from 1 (line ∷ lines)

-- the log at the front of a text, whose lines are what stands before, between and after its
-- LFs, or the number of its first line that has a fault, and the fault
abbrev pub log_of : List ℕ → Result LogText (ℕ × LogFault)
log_of text = log_at (slice_split is_line_feed text)

abbrev pub record_in : Read → Option Record
record_in (reads.Record r) = Some r
record_in (reads.Foreign offset) = None

abbrev pub is_foreign : Read → Bool
is_foreign read = is_none (record_in read)

abbrev pub offset_in : Read → ℕ
offset_in (reads.Record r) = r.offset
offset_in (reads.Foreign offset) = offset

-- the records among them
abbrev pub records_in : List Read → List Record
records_in read = filter_map record_in read

-- one more than the greatest offset, or 0
abbrev pub next_after : List Read → ℕ
next_after read = fold (λ next r. max next (suc (offset_in r))) 0 read

-- the next offset: the greater of the floor and of one more than the greatest offset
abbrev pub next_of : ℕ → List Read → ℕ
next_of floor read = max floor (next_after read)

-- the log holds that floor, and what its lines say
pub record IsLogOf (given : ℕ) (read : List Read) (log : Log) : Type 0 where
  pub records : log.records.items ≡ records_in read
  pub foreign : log.foreign ≡ count_by is_foreign read
  pub floor : log.floor ≡ given
  pub next : log.next ≡ next_of given read

-- a fault was counted, or none was and the last line took as many reads as one may, made since
abbrev pub LosesLine : {R : Type 0} → Device R → Device R → Type 0
LosesLine before after = (faults_of after ≡ counted (faults_of before)) ⊎ ((faults_of after ≡ faults_of before)
    × (reads_of after ≡ LINE_READS) × HasReadMore before after LINE_READS)

-- those bytes were taken with the LF after them, or they were all that was left
abbrev pub TakesLastLine : Option (List ℕ) → Option (List ℕ) → List ℕ → Type 0
TakesLastLine old new bytes = Consumes old new (bytes ++ 10 ∷ []) ⊎ (Consumes old new bytes × OnSome old (IsAtEnd new))

-- no bytes, or bytes up to and with an LF
abbrev pub AreWholeLines : List ℕ → Type 0
AreWholeLines bytes = (bytes ≡ []) ⊎ ((front : List ℕ) × (bytes ≡ front ++ 10 ∷ []))

-- no more reads were made than so many lines may take
abbrev pub ReadsFewTimes : {R : Type 0} → Device R → Device R → ℕ → Type 0
ReadsFewTimes before after lines = all_reads_of after ≤ all_reads_of before + lines * LINE_READS

-- why no log was read: a line's fault comes where it is the first, and that line is taken with its LF;
-- a reader's fault only where one was counted or a line took as many reads as it may, counted from its front on, and its line is
-- the one after those that were read
abbrev pub IsLogRefusal : {R : Type 0} → Device R → Device R → Option (List ℕ) → Option (List ℕ) → LogError → Type 0
IsLogRefusal before after old new (errors.Fault line fault) =
    (faults_of after ≡ faults_of before) × IfSome old (λ text. log_of text ≡ Err (line, fault))
    × (taken : List ℕ) × TakesLastLine old new taken × (count_by is_line_feed taken + 1 ≡ line) × ReadsFewTimes before after line
IsLogRefusal before after old new (errors.ReadFault line) = LosesLine before after
    × (lines : List ℕ) × (part : List ℕ) × Consumes old new (lines ++ part) × AreWholeLines lines × BeganAfter before after (length lines)
    × (count_by is_line_feed lines + 1 ≡ line) × (count_by is_line_feed part ≡ 0) × ReadsFewTimes before after line
IsLogRefusal before after old new errors.OutOfMemory = faults_of after ≡ faults_of before
