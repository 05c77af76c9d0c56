-- What one read of messages takes.
use Rattle.std.specs.Prelude.{◌≡◌, ◌≢◌, ℕ, List, ◌++◌, Option}
use Rattle.std.specs.Io.KnownBytes.{Consumes, IsAtEnd, Keeps}
use Rattle.std.specs.declared.io.ErrorKind.TheVariants.{Interrupted}
use Rattle.reg_adapter.specs.Messages.{EndsWithin, HasRead, IsBetween}
use Rattle.reg_adapter.specs.declared.messages.Messages.{Messages}
use Rattle.reg_adapter.specs.declared.told.AdapterMessage.{AdapterMessage}
use Rattle.reg_adapter_line.specs.declared.end.LineEnd.{LineEnd}
use Rattle.reg_adapter_line.specs.declared.end.LineEnd.TheVariants as ends
use Rattle.reg_adapter_line.specs.declared.reading.Piece.{Piece}
use Rattle.reg_adapter_line.specs.declared.reading.Piece.TheVariants as pieces

-- why nothing more comes: the input is at its end, between two messages or within one; or it can't be read
abbrev pub EndsAs : Option (List ℕ) → Messages → LineEnd → Type 0
EndsAs left messages ends.Input = IsAtEnd left × IsBetween messages
EndsAs left messages (ends.Fault error) = IsAtEnd left × EndsWithin messages error
EndsAs left messages (ends.ReadFault kind) = kind ≢ Interrupted
EndsAs left messages ends.NobodyAsked = ⊥
EndsAs left messages (ends.Output kind) = ⊥
EndsAs left messages ends.Unfinished = ⊥
EndsAs left messages ends.Unread = ⊥

-- bytes were taken behind the text, or none were
abbrev pub TakesPiece : Option (List ℕ) → Option (List ℕ) → List ℕ → List AdapterMessage → Messages → Messages → Piece → Type 0
TakesPiece old new text told before after pieces.Bytes = (bytes : List ℕ) × Consumes old new bytes × HasRead (text ++ bytes) told after
TakesPiece old new text told before after pieces.Nothing = Keeps old new × (after ≡ before)
TakesPiece old new text told before after pieces.OutOfMemory = Keeps old new × (after ≡ before)
TakesPiece old new text told before after (pieces.End end) = Keeps old new × (after ≡ before) × EndsAs old before end
