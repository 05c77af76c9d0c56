-- What one line of an adapter says.
use Rattle.std.specs.Prelude.{◌≡◌, ⊤, ℕ, ◌+◌, List, [], ◌∷◌, Bool, true, ◌==◌, nat_lt, length, bytes_eq, codes}
use Rattle.std.specs.Prelude.{Option, Some, None, Result, Ok, Err, if◌then◌else◌}
use Rattle.std.specs.Option.{option_map_or}
use Rattle.reg_records.specs.Device.{counted}
use Rattle.reg_records.specs.Line.{reading}
use Rattle.reg_records.specs.Log.{offset_in}
use Rattle.reg_records.specs.declared.limits.TheConstants.{LINE_LIMIT}
use Rattle.reg_records.specs.declared.line.LineError.{LineError}
use Rattle.reg_records.specs.declared.line.LineError.TheVariants.{TooLong}
use Rattle.reg_records.specs.declared.record.Read.{Read}
use Rattle.reg_adapter.specs.declared.fault.MessageError.{MessageError}
use Rattle.reg_adapter.specs.declared.fault.MessageError.TheVariants.{Fault, OutOfMemory}
use Rattle.reg_adapter.specs.declared.fault.MessageFault.{MessageFault}
use Rattle.reg_adapter.specs.declared.fault.MessageFault.TheVariants as faults
use Rattle.reg_adapter.specs.declared.line.Part.{Part}
use Rattle.reg_adapter.specs.declared.line.Part.TheVariants as parts
use Rattle.reg_adapter.specs.declared.line.Word.{Word}
use Rattle.reg_adapter.specs.declared.line.Word.TheVariants.{Batch, Answer, Ready}
use Rattle.reg_adapter.specs.declared.told.AdapterAnswer.TheVariants.{Kept, Behind, Declined, Lost}

-- the words
unfoldable pub word_of : List ℕ → Option Word
word_of line =
    if bytes_eq line (codes "batch") then Some Batch
    else (if bytes_eq line (codes "kept") then Some (Answer Kept)
    else (if bytes_eq line (codes "behind") then Some (Answer Behind)
    else (if bytes_eq line (codes "declined") then Some (Answer Declined)
    else (if bytes_eq line (codes "lost") then Some (Answer Lost)
    else (if bytes_eq line (codes "ready") then Some Ready else None)))))

-- between two messages a line is a word
abbrev pub word_in : List ℕ → Result Word MessageFault
word_in line =
    if nat_lt LINE_LIMIT (length line) then Err (faults.Line TooLong) else option_map_or Ok (word_of line) (Err faults.NoMessage)

-- the line has the offset behind those of the lines of its batch so far
abbrev pub follows : List Read → Read → Bool
follows [] read = true
follows (first ∷ more) read = offset_in read == offset_in first + length (first ∷ more)

-- a line of a log, which has to follow
abbrev pub line_in : List Read → Result Read LineError → Result Part MessageFault
line_in begun (Err fault) = Err (faults.Line fault)
line_in begun (Ok read) = if follows begun read then Ok (parts.Line read) else Err faults.Gap

-- the empty line, behind some lines
abbrev pub end_behind : List Read → Result Part MessageFault
end_behind [] = Err faults.EmptyBatch
end_behind (first ∷ more) = Ok parts.End

-- within a batch that has these lines so far a line is one of a log, or the empty one, which ends the batch
abbrev pub part_in : List Read → List ℕ → Result Part MessageFault
part_in begun [] = end_behind begun
part_in begun (b ∷ line) = line_in begun (reading (b ∷ line))

-- the line has that fault, and that number, where so many stand before it; or memory was refused
abbrev pub IsFault : {A : Type 0} → ℕ → Result A MessageFault → MessageError → Type 0
IsFault before said (Fault number fault) = (number ≡ counted before) × (said ≡ Err fault)
IsFault before said OutOfMemory = ⊤
