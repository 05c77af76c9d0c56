-- Private: what one line makes of what was read.
use Rattle.std.specs.Prelude.{◌≡◌, ⊤, ◌<◌, ◌≤◌, List, [], ◌∷◌, ◌++◌, length}
use Rattle.reg_records.specs.Pieces.{HasNoLineFeed}
use Rattle.reg_records.specs.declared.limits.TheConstants.{LINE_LIMIT}
use Rattle.reg_adapter.specs.Heard.{Heard, with_part, with_word}
use Rattle.reg_adapter.specs.Messages.{IsRefusalAt, begun_in}
use Rattle.reg_adapter.specs.declared.fault.MessageError.{MessageError}
use Rattle.reg_adapter.specs.declared.line.Part.{Part}
use Rattle.reg_adapter.specs.declared.line.Word.{Word}
use Rattle.reg_adapter.specs.declared.messages.Messages.{Messages}
use Rattle.reg_adapter.specs.declared.messages.Step.{Step}
use Rattle.reg_adapter.specs.declared.messages.Step.TheVariants as steps
use Rattle.reg_adapter.specs.declared.told.AdapterMessage.{AdapterMessage}

-- the messages behind those before, by what became of a line
abbrev pub told_after : List AdapterMessage → Step → List AdapterMessage
told_after told (steps.Told next) = told ++ next ∷ []
told_after told steps.Within = told
told_after told steps.Nothing = told

-- a line was there
abbrev pub IsTaken : Step → Type 0
IsTaken (steps.Told next) = ⊤
IsTaken steps.Within = ⊤
IsTaken steps.Nothing = ⊥

-- what the line makes of what was told is what is given and held then
pub record Takes (old : Messages) (heard : List AdapterMessage → Heard) (step : Step) (new : Messages) : Type 0 where
  pub makes : (told : List AdapterMessage) → heard told ≡ record { told = told_after told step; begun = begun_in new }
  pub lines : new.lines ≡ old.lines
  pub taken : IsTaken step

abbrev pub TakesWord : Messages → Word → Step → Messages → Type 0
TakesWord old word step new = Takes old (λ told. with_word told word) step new

abbrev pub TakesPart : Messages → Part → Step → Messages → Type 0
TakesPart old part step new = Takes old (λ told. with_part told old.begun.items part) step new

-- a line was taken; or no whole line is there
abbrev pub IsLess : Messages → Step → Messages → Type 0
IsLess old (steps.Told next) new = length new.lines.bytes < length old.lines.bytes
IsLess old steps.Within new = length new.lines.bytes < length old.lines.bytes
IsLess old steps.Nothing new = HasNoLineFeed new.lines.bytes × (length new.lines.bytes ≤ LINE_LIMIT)

-- the same lines are left, and the same was read
pub record IsSame (old new : Messages) : Type 0 where
  pub lines : new.lines ≡ old.lines
  pub begun : begun_in new ≡ begun_in old

abbrev pub IsStepRefusal : Messages → MessageError → Type 0
IsStepRefusal m error = IsRefusalAt (begun_in m) m.lines.bytes m.lines.count error
