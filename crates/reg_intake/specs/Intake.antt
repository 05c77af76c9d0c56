-- Lines of a log as they come.
use Rattle.std.specs.Prelude.{◌≡◌, ◌⊎◌, ◌<◌, ◌≤◌, ⊤, ℕ, ◌^◌, ◌-◌, ◌++◌, ◌∷◌, ◌&&◌, List, []}
use Rattle.std.specs.Prelude.{length, take, min, nat_eq, codes, Result, Err, if◌then◌else◌}
use Rattle.std.specs.Result.{result_map_both}
use Rattle.reg_journal.specs.Lines.{SayLog, text_of}
use Rattle.reg_records.specs.Device.{counted}
use Rattle.reg_records.specs.Errors.{at_line, log_fault_name}
use Rattle.reg_records.specs.Floor.{floor_reading, is_floor_line}
use Rattle.reg_records.specs.Line.{reading}
use Rattle.reg_records.specs.Log.{records_in}
use Rattle.reg_records.specs.Pieces.{HasNoLineFeed}
use Rattle.reg_records.specs.declared.limits.TheConstants.{LINE_LIMIT}
use Rattle.reg_records.specs.declared.line.LineError.TheVariants.{TooLong}
use Rattle.reg_records.specs.declared.log.LogFault.{LogFault}
use Rattle.reg_records.specs.declared.log.LogFault.TheVariants as faults
use Rattle.reg_records.specs.declared.record.Read.{Read}
use Rattle.reg_records.specs.declared.record.Record.{Record}
use Rattle.reg_intake.specs.declared.fault.IntakeError.{IntakeError}
use Rattle.reg_intake.specs.declared.fault.IntakeError.TheVariants.{Fault, OutOfMemory}
use Rattle.reg_intake.specs.declared.incoming.Came.{Came}
use Rattle.reg_intake.specs.declared.incoming.Came.TheVariants.{Line, Floor, End, Nothing}

-- the bytes that no line was read of, and how many lines were read
pub record Unread : Type 0 where
  pub bytes : List ℕ
  pub count : ℕ

abbrev pub with_bytes : Unread → List ℕ → Unread
with_bytes s bytes = record s { bytes = s.bytes ++ bytes }

-- the text is lines that say this, behind that of a floor or none, and the bytes that no line was read of
pub record HasRead (text : List ℕ) (read : List Read) (s : Unread) : Type 0 where
  pub lines : List (List ℕ)
  pub floor : ℕ
  pub parts : text ≡ text_of lines ++ s.bytes
  pub say : SayLog lines floor read
  pub count : s.count ≡ min (length lines) (2 ^ 64 - 1)

-- what a line says that so many stand before, or its fault; the first one may say a floor
abbrev pub said_at : ℕ → List ℕ → Result Came LogFault
said_at before line =
    if nat_eq before 0 && is_floor_line line then result_map_both (λ floor. Floor) (λ fault. fault) (floor_reading line)
    else result_map_both Line faults.Line (reading line)

-- the line at the front was taken, and counted
pub record TakesFront (old new : Unread) : Type 0 where
  pub line : List ℕ
  pub parts : old.bytes ≡ line ++ 10 ∷ new.bytes
  pub count : new.count ≡ counted old.count

-- the next line of the text was read, which says this; or the first one, which says a floor; or the next one is empty; or it isn't whole
abbrev pub Comes : List ℕ → List Read → Unread → Came → Unread → Type 0
Comes text read old (Line r) new = HasRead text (read ++ r ∷ []) new × TakesFront old new
Comes text read old Floor new = HasRead text read new × TakesFront old new × (old.count ≡ 0)
Comes text read old End new = (new ≡ old) × ((rest : List ℕ) × (old.bytes ≡ 10 ∷ rest))
Comes text read old Nothing new = (new ≡ old) × HasNoLineFeed old.bytes × (length old.bytes ≤ LINE_LIMIT)

-- the line has that fault, and that number
abbrev pub IsLineFault : ℕ → List ℕ → IntakeError → Type 0
IsLineFault before line (Fault number fault) = (number ≡ counted before) × (said_at before line ≡ Err fault)
IsLineFault before line OutOfMemory = ⊤

-- the line at the front has that fault; one without an LF is too long as soon as it has too many bytes
abbrev pub HasFaultAtFront : Unread → LogFault → Type 0
HasFaultAtFront s fault =
    ((line : List ℕ) × (rest : List ℕ) × (s.bytes ≡ line ++ 10 ∷ rest) × HasNoLineFeed line × (0 < length line)
    × (said_at s.count line ≡ Err fault))
    ⊎ (HasNoLineFeed s.bytes × (LINE_LIMIT < length s.bytes) × (fault ≡ faults.Line TooLong))

-- the next line has that fault, and that number; or memory was refused
abbrev pub IsRefusal : Unread → IntakeError → Type 0
IsRefusal s (Fault line fault) = (line ≡ counted s.count) × HasFaultAtFront s fault
IsRefusal s OutOfMemory = ⊤

-- its text
abbrev pub intake_error_text : IntakeError → List ℕ
intake_error_text (Fault line fault) = at_line line (log_fault_name fault)
intake_error_text OutOfMemory = codes "OutOfMemory"

-- the records that the first lines say, so many of those that say something
abbrev pub records_of_first : ℕ → List Read → List Record
records_of_first n read = records_in (take n read)

-- the first records, so many, and no fewer than those of the first lines, are those of no fewer first lines
abbrev pub FirstRecordsAreOfFirstLines : Type 0
FirstRecordsAreOfFirstLines = (read : List Read) (n k : ℕ)
    → n ≤ length read
    → length (records_of_first n read) ≤ k
    → k ≤ length (records_in read)
    → (m : ℕ) × (n ≤ m) × (m ≤ length read) × (take k (records_in read) ≡ records_of_first m read)
