-- The query whether a schema may follow. Below, es are all entries.
use Rattle.std.specs.Prelude.{◌≡◌, ℕ, List, [], ◌∷◌, Bool, false, Option, Some, None, Result, Ok, Err}
use Rattle.reg_modes.specs.avro_schema.Defaults.{bad_defaults}
use Rattle.reg_modes.specs.avro_schema.Schema.{Meaning}
use Rattle.reg_modes.specs.reg_level_names.declared.level.Level.{Level}
use Rattle.reg_levels.specs.Judgement.{first_unread}
use Rattle.reg_levels.specs.declared.verdict.LevelVerdict.{LevelVerdict}
use Rattle.reg_levels.specs.Message.{message_of}
use Rattle.reg_levels.specs.RequiredPairs.{HasRisingVersions, looked_at}
use Rattle.reg_levels.specs.Texts.{VersionText, IsVerdictOfTexts}
use Rattle.reg_modes.specs.reg_entries.Sought.{live_of, texts_of}
use Rattle.reg_modes.specs.reg_entries.declared.entry.Entry.{Entry}
use Rattle.reg_modes.specs.reg_set.Records.{Records}
use Rattle.reg_modes.specs.reg_fold.Entries.{entries}
use Rattle.reg_modes.specs.reg_fold.InForce.{level}
use Rattle.reg_modes.specs.reg_refusals.declared.refusal.Refusal.{Refusal}
use Rattle.reg_modes.specs.reg_refusals.declared.refusal.Refusal.TheVariants.{InvalidSchema}
use Rattle.reg_modes.specs.reg_fold.declared.version_ref.VersionRef.{VersionRef}
use Rattle.reg_lookup.specs.declared.answered.Answer.{Answer}
use Rattle.reg_lookup.specs.Bodies.{check_body, answer_with}
use Rattle.reg_lookup.specs.BySchema.{read_schema}
use Rattle.reg_lookup.specs.Found.{version_found, and_then, found_map}

abbrev pub unless_bad : List (List ℕ) → Meaning → Result Meaning Refusal
unless_bad [] schema = Ok schema
unless_bad (field ∷ fields) schema = Err InvalidSchema

-- what a text means, where its defaults are valid
abbrev pub read_sound_schema : List ℕ → Result Meaning Refusal
read_sound_schema text = and_then (λ schema. unless_bad (bad_defaults schema.nodes) schema) (read_schema text)

-- the versions that it is checked against: the subject's live ones, or the one that is named, which has to be live
abbrev pub olds_of : List Entry → List ℕ → Option VersionRef → Result (List VersionText) Refusal
olds_of es subject None = Ok (texts_of (live_of es subject))
olds_of es subject (Some which) = found_map (λ e. texts_of (e ∷ [])) (version_found es subject which false)

-- the versions, once the schema is read
abbrev pub asked_on : Result (List VersionText) Refusal → List ℕ → Result (List VersionText) Refusal
asked_on olds text = and_then (λ schema. olds) (read_sound_schema text)

abbrev pub asked : List Entry → List ℕ → Option VersionRef → List ℕ → Result (List VersionText) Refusal
asked es subject which text = asked_on (olds_of es subject which) text

-- what a check is answered on: the level in force for the subject, and of the versions those that it looks at, or why there are none
pub record CheckedOn : Type 0 where
  pub level : Level
  pub olds : Result (List VersionText) Refusal

abbrev pub checked_on : Records → List ℕ → Option VersionRef → CheckedOn
checked_on rs subject which =
    record { level = level rs (Some subject); olds = found_map (looked_at (level rs (Some subject))) (olds_of (entries rs) subject which) }

-- the versions rise, and each text is a schema's
abbrev pub AreRead : List VersionText → Type 0
AreRead olds = HasRisingVersions olds × (first_unread olds ≡ None)

-- the answer says the verdict of the pairs that the level requires of the text against the versions
abbrev pub TellsVerdict : Level → List ℕ → Bool → Result (List VersionText) Refusal → Answer → Type 0
TellsVerdict level text verbose (Err refusal) a = a ≡ answer_with (Err refusal)
TellsVerdict level text verbose (Ok olds) a = (v : LevelVerdict) × IsVerdictOfTexts level text olds v
    × (a ≡ answer_with (Ok (check_body verbose v.ok (message_of v))))
