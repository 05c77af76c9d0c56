-- What the messages of a text are, whatever the pieces that it comes in.
use Rattle.std.specs.Prelude.{◌≡◌, ⊤, ℕ, List, [], ◌∷◌, ◌++◌, Option, None}
use mathlib.Core.List.{IsPrefix}
use Rattle.reg_journal.specs.Lines.{Say}
use Rattle.reg_records.specs.Log.{LogText}
use Rattle.reg_records.specs.Pieces.{HasNoLineFeed}
use Rattle.reg_records.specs.declared.record.Read.{Read}
use Rattle.reg_adapter.specs.Messages.{HasFaultAtFront, HasTold}
use Rattle.reg_adapter.specs.Transcript.{IsBatch, IsMessageText, IsTranscript}
use Rattle.reg_adapter.specs.declared.fault.MessageFault.{MessageFault}
use Rattle.reg_adapter.specs.declared.told.AdapterMessage.{AdapterMessage}
use Rattle.reg_adapter.specs.declared.told.AdapterMessage.TheVariants.{Batch, Answer, Ready}

-- whoever has read all whole lines of a text was given the same messages, and has begun the same batch, or none
abbrev pub TextsTellOnce : Type 0
TextsTellOnce = (text : List ℕ) (told other : List AdapterMessage) (begun begun' : Option (List Read)) (bytes bytes' : List ℕ) (count count' : ℕ)
    → HasTold text told begun bytes count → HasNoLineFeed bytes
    → HasTold text other begun' bytes' count' → HasNoLineFeed bytes'
    → (other ≡ told) × (begun' ≡ begun) × (bytes' ≡ bytes) × (count' ≡ count)

-- where a line has a fault, whoever reads that text and whatever comes behind is given no other messages, and finds no other fault
abbrev pub FaultsAreFirst : Type 0
FaultsAreFirst = (text more : List ℕ) (told other : List AdapterMessage) (begun begun' : Option (List Read)) (bytes bytes' : List ℕ) (count count' : ℕ)
    (fault : MessageFault)
    → HasTold text told begun bytes count → HasFaultAtFront begun bytes fault
    → HasTold (text ++ more) other begun' bytes' count'
    → IsPrefix other told
    × ((fault' : MessageFault) → HasFaultAtFront begun' bytes' fault' → (other ≡ told) × (count' ≡ count) × (fault' ≡ fault))

-- a batch has lines that say it, as any that a log has; an answer and ready have their word
abbrev pub HaveLines : List AdapterMessage → Type 0
HaveLines [] = ⊤
HaveLines (Batch reads ∷ more) = ((lines : List (List ℕ)) × Say lines reads × IsBatch reads) × HaveLines more
HaveLines (Answer answer ∷ more) = HaveLines more
HaveLines (Ready ∷ more) = HaveLines more

-- such messages have a text
abbrev pub MessagesHaveTexts : Type 0
MessagesHaveTexts = (told : List AdapterMessage) → HaveLines told → (text : List ℕ) × IsMessageText text told

-- the text of some messages tells these
abbrev pub MessagesAreRead : Type 0
MessagesAreRead = (text : List ℕ) (told : List AdapterMessage) → IsMessageText text told → (count : ℕ) × HasTold text told None [] count

-- and a text that tells some messages, and has nothing more, is theirs
abbrev pub TextsAreMessages : Type 0
TextsAreMessages = (text : List ℕ) (told : List AdapterMessage) (count : ℕ) → HasTold text told None [] count → IsMessageText text told

-- an adapter says one base, and one list of messages behind it
abbrev pub TranscriptsAreUnique : Type 0
TranscriptsAreUnique = (text : List ℕ) (base base' : LogText) (told other : List AdapterMessage) → IsTranscript text base told
    → IsTranscript text base' other → (base' ≡ base) × (other ≡ told)
