-- Why a batch isn't appended.
use Rattle.std.specs.Prelude.{◌≡◌, ⊤, ◌⊎◌, ◌<◌, ◌≤◌, ◌+◌, ◌-◌, ◌^◌, ℕ, List, Bool, true, false, Contains, length}
use Rattle.reg_records.specs.Written.{line_text}
use Rattle.reg_records.specs.declared.limits.TheConstants.{LINE_LIMIT, LOG_LINES}
use Rattle.reg_records.specs.declared.record.Record.{Record}
use Rattle.reg_records.specs.declared.write.WriteLineError.{WriteLineError}
use Rattle.reg_records.specs.declared.write.WriteLineError.TheVariants as lines
use Rattle.reg_journal.specs.Disk.{GaveFault}
use Rattle.reg_journal.specs.JournalState.{JournalState}
use Rattle.reg_journal.specs.Lines.{batch_lines, text_of}
use Rattle.reg_journal.specs.declared.disk.DiskError.{DiskError}
use Rattle.reg_journal.specs.declared.journal.AppendError.{AppendError}
use Rattle.reg_journal.specs.declared.journal.AppendError.TheVariants.{LineTooLong, TooManyLines, OutOfMemory, Changed, Unnamed, Failed, Broken}

-- nothing was written
abbrev pub is_refusal : AppendError → Bool
is_refusal LineTooLong = true
is_refusal TooManyLines = true
is_refusal OutOfMemory = true
is_refusal Changed = false
is_refusal Unnamed = false
is_refusal Failed = false
is_refusal Broken = false

-- what a line that can't be written makes of a batch
abbrev pub refusal_of : WriteLineError → AppendError
refusal_of lines.TooLong = LineTooLong
refusal_of lines.OutOfMemory = OutOfMemory

-- a record's line is longer than a line may be
abbrev pub HasLongLine : List Record → Type 0
HasLongLine batch = (r : Record) × Contains batch r × (LINE_LIMIT < length (line_text r))

-- the file or what the batch adds has 2^60 bytes or more
abbrev pub IsTooLarge : ℕ → List Record → Type 0
IsTooLarge end batch = (2 ^ 60 ≤ end) ⊎ (2 ^ 60 ≤ length (text_of (batch_lines batch)) + 1)

-- why a batch isn't acknowledged, where so many lines were to stay free: a file of another length is none that is modelled, a disk that
-- failed gave a fault, and of a file without its name the disk said so
abbrev pub HasCause : {D : Type 0} → Type 0 → (D → DiskError → D → Type 0) → (D → Bool → Type 0)
    → JournalState D → List Record → ℕ → AppendError → JournalState D → Type 0
HasCause is_modelled faults named old batch free LineTooLong new = HasLongLine batch
HasCause is_modelled faults named old batch free TooManyLines new = LOG_LINES - free - old.lines < length batch
HasCause is_modelled faults named old batch free OutOfMemory new = ⊤
HasCause is_modelled faults named old batch free Changed new = is_modelled → IsTooLarge old.end batch
HasCause is_modelled faults named old batch free Unnamed new = is_modelled → named new.disk false
HasCause is_modelled faults named old batch free Failed new = GaveFault faults new.disk
HasCause is_modelled faults named old batch free Broken new = old.is_broken ≡ true
