-- What a text tells whose bytes came, and what is left of it.
use Rattle.std.specs.Prelude.{◌≡◌, ◌⊎◌, ⊤, ◌<◌, ◌≤◌, ◌-◌, ◌^◌, ℕ, List, [], ◌∷◌, ◌++◌, true, length, min, All}
use Rattle.std.specs.Prelude.{Option, Some, None, Ok, Err, if◌then◌else◌}
use Rattle.reg_journal.specs.Lines.{text_of}
use Rattle.reg_records.specs.Device.{counted}
use Rattle.reg_records.specs.Pieces.{HasNoLineFeed}
use Rattle.reg_records.specs.declared.limits.TheConstants.{LINE_LIMIT}
use Rattle.reg_records.specs.declared.line.LineError.TheVariants.{TooLong, Truncated}
use Rattle.reg_records.specs.declared.record.Read.{Read}
use Rattle.reg_adapter.specs.Heard.{heard_of, heard_with}
use Rattle.reg_adapter.specs.declared.fault.MessageError.{MessageError}
use Rattle.reg_adapter.specs.declared.fault.MessageError.TheVariants.{Fault, OutOfMemory}
use Rattle.reg_adapter.specs.declared.fault.MessageFault.{MessageFault}
use Rattle.reg_adapter.specs.declared.fault.MessageFault.TheVariants.{Line, Unended}
use Rattle.reg_adapter.specs.declared.messages.Messages.{Messages}
use Rattle.reg_adapter.specs.declared.told.AdapterMessage.{AdapterMessage}

-- the text is whole lines, which tell these messages and begin that batch or none, and bytes of which no line was read
pub record HasTold (text : List ℕ) (told : List AdapterMessage) (begun : Option (List Read)) (bytes : List ℕ) (count : ℕ) : Type 0 where
  pub lines : List (List ℕ)
  pub parts : text ≡ text_of lines ++ bytes
  pub free : All HasNoLineFeed lines
  pub heard : heard_of lines ≡ Ok (record { told = told; begun = begun })
  pub counts : count ≡ min (length lines) (2 ^ 64 - 1)

-- what was read of the batch that is begun, where one is
abbrev pub begun_in : Messages → Option (List Read)
begun_in m = if m.is_begun then Some m.begun.items else None

-- of the text these messages were given, and no other whole one was read
abbrev pub HasRead : List ℕ → List AdapterMessage → Messages → Type 0
HasRead text told m = HasTold text told (begun_in m) m.lines.bytes m.lines.count

-- the next message of the text was given; or none is whole
abbrev pub Comes : List ℕ → List AdapterMessage → Option AdapterMessage → Messages → Type 0
Comes text told (Some next) new = HasRead text (told ++ next ∷ []) new
Comes text told None new = HasRead text told new × HasNoLineFeed new.lines.bytes × (length new.lines.bytes ≤ LINE_LIMIT)

-- the line at the front of the bytes has that fault behind a batch that is begun, or none; one without an LF is too long as soon as it has
-- too many bytes
abbrev pub HasFaultAtFront : Option (List Read) → List ℕ → MessageFault → Type 0
HasFaultAtFront begun bytes fault =
    ((line : List ℕ) × (rest : List ℕ) × (bytes ≡ line ++ 10 ∷ rest) × HasNoLineFeed line × (heard_with [] begun line ≡ Err fault))
    ⊎ (HasNoLineFeed bytes × (LINE_LIMIT < length bytes) × (fault ≡ Line TooLong))

-- the next line has that fault, and that number; or memory was refused
abbrev pub IsRefusalAt : Option (List Read) → List ℕ → ℕ → MessageError → Type 0
IsRefusalAt begun bytes count (Fault number fault) = (number ≡ counted count) × HasFaultAtFront begun bytes fault
IsRefusalAt begun bytes count OutOfMemory = ⊤

-- no message is lost, and what is left begins with that fault; or memory was refused
pub record IsRefusal (text : List ℕ) (told : List AdapterMessage) (new : Messages) (error : MessageError) : Type 0 where
  pub read : HasRead text told new
  pub fault : IsRefusalAt (begun_in new) new.lines.bytes new.lines.count error

-- each byte is of a message that was given
abbrev pub IsBetween : Messages → Type 0
IsBetween m = (m.lines.bytes ≡ []) × (begun_in m ≡ None)

-- bytes of a line are left, or a batch is begun
abbrev pub IsWithin : Messages → MessageFault → Type 0
IsWithin m fault =
    ((0 < length m.lines.bytes) × (fault ≡ Line Truncated))
    ⊎ ((m.lines.bytes ≡ []) × (m.is_begun ≡ true) × (fault ≡ Unended))

abbrev pub EndsWithin : Messages → MessageError → Type 0
EndsWithin m (Fault number fault) = (number ≡ counted m.lines.count) × IsWithin m fault
EndsWithin m OutOfMemory = ⊥
