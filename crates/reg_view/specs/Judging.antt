-- What a registration is judged by. Below, rs are the last records.
use Rattle.std.specs.Prelude.{◌≡◌, ◌⊎◌, ⊤, ℕ, List, Some, None, IsSome}
use Rattle.avro_schema.specs.Schema.{Meaning, schema_of}
use Rattle.reg_fold.specs.InForce.{level}
use Rattle.reg_fold.specs.Standing.{live}
use Rattle.reg_level_names.specs.declared.level.Level.{Level}
use Rattle.reg_levels.specs.Judgement.{Judgement, IsMadeOf, first_unread}
use Rattle.reg_levels.specs.RequiredPairs.{looked_at}
use Rattle.reg_levels.specs.Texts.{VersionText}
use Rattle.reg_leader.specs.declared.command.Command.{Command}
use Rattle.reg_leader.specs.declared.command.Command.TheVariants.{Register}
use Rattle.reg_entries.specs.Sought.{texts_of}
use Rattle.reg_set.specs.Records.{Records}

-- the level in force for a subject, and the live versions that it looks at, with their texts: a new schema is judged against them
pub record Standing : Type 0 where
  pub level : Level
  pub olds : List VersionText

abbrev pub against : Records → List ℕ → Standing
against rs subject = record { level = level rs (Some subject); olds = looked_at (level rs (Some subject)) (texts_of (live rs subject)) }

-- what is judged: a new schema of a subject, in its normal text, against what stands
pub record Matter : Type 0 where
  pub subject : List ℕ
  pub new_text : List ℕ
  pub standing : Standing

-- the matter is that of the command: of a registration what its text means, against what stands of its subject; other commands have none
abbrev pub IsMatterOf : Records → Command → Matter → Type 0
IsMatterOf rs (Register subject text) m =
    (schema : Meaning) × (schema_of text ≡ Some schema)
    × (m ≡ record { subject = subject; new_text = schema.normal_text; standing = against rs subject })
IsMatterOf rs c m = ⊥

-- the judgement is that of the command
abbrev pub IsJudgementOf : Records → Command → Judgement → Type 0
IsJudgementOf rs c j = (m : Matter) × IsMatterOf rs c m × IsMadeOf j m.standing.level m.new_text m.standing.olds

-- why there is nothing to judge of a command: it is no registration, or its text means no schema
abbrev pub HasNoMatter : Command → Type 0
HasNoMatter (Register subject text) = schema_of text ≡ None
HasNoMatter c = ⊤

-- why a command has no judgement: there is nothing to judge, or the text of a live version that the level looks at means no schema
abbrev pub HasNoJudgement : Records → Command → Type 0
HasNoJudgement rs (Register subject text) = (schema_of text ≡ None) ⊎ IsSome (first_unread (against rs subject).olds)
HasNoJudgement rs c = ⊤
