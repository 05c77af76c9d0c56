-- What a check of the level tells.
use Rattle.std.specs.Prelude.{◌≡◌, ℕ, List, Option, Some, None}
use Rattle.reg_modes.specs.reg_level_names.declared.level.Level.{Level}
use Rattle.reg_modes.specs.reg_entries.Sought.{texts_of}
use Rattle.reg_modes.specs.reg_fold.Standing.{live}
use Rattle.reg_levels.specs.Judgement.{first_unread}
use Rattle.reg_levels.specs.Message.{message_of}
use Rattle.reg_levels.specs.Texts.{VersionText, IsVerdictOfTexts, TextsMeet}
use Rattle.reg_levels.specs.declared.verdict.LevelVerdict.{LevelVerdict}
use Rattle.reg_modes.specs.reg_set.Records.{Records}

-- the level isn't met, and that is the message of the first required pair that clashes
abbrev pub IsClash : Level → List ℕ → List VersionText → List ℕ → Type 0
IsClash level new olds message = (v : LevelVerdict) × IsVerdictOfTexts level new olds v × (message_of v ≡ Some message)

-- nothing where the level is met, else that message
abbrev pub IsReport : Level → List ℕ → List VersionText → Option (List ℕ) → Type 0
IsReport level new olds None = TextsMeet level new olds
IsReport level new olds (Some message) = IsClash level new olds message

-- the text of each live version is a schema's
abbrev pub LiveVersionsAreRead : Type 0
LiveVersionsAreRead = (rs : Records) (subject : List ℕ) → first_unread (texts_of (live rs subject)) ≡ None
