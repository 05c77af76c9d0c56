-- A verdict, and what it was made of.
use Rattle.std.specs.Prelude.{◌≡◌, ℕ, List, Option, None, true, not, option_map}
use Rattle.std.specs.List.{find}
use Rattle.avro_resolve.specs.avro_schema.Schema.{is_schema}
use Rattle.reg_level_names.specs.declared.level.Level.{Level}
use Rattle.reg_levels.specs.declared.verdict.LevelVerdict.{LevelVerdict}
use Rattle.reg_levels.specs.RequiredPairs.{HasRisingVersions}
use Rattle.reg_levels.specs.Texts.{VersionText, IsVerdictOfTexts}

pub record Judgement : Type 0 where
  pub level : Level
  pub new_text : List ℕ
  pub olds : List VersionText
  pub verdict : LevelVerdict

-- the first old version whose text is no schema's
abbrev pub first_unread : List VersionText → Option ℕ
first_unread olds = option_map (λ old. old.0) (find (λ old. not (is_schema old.1)) olds)

-- the texts are schemas', the versions rise, and the verdict is theirs
pub record IsTrueVerdict (level : Level) (new_text : List ℕ) (olds : List VersionText) (verdict : LevelVerdict) : Type 0 where
  pub new_is_read : is_schema new_text ≡ true
  pub olds_are_read : first_unread olds ≡ None
  pub versions_rise : HasRisingVersions olds
  pub is_verdict : IsVerdictOfTexts level new_text olds verdict

-- it was made of these
abbrev pub IsMadeOf : Judgement → Level → List ℕ → List VersionText → Type 0
IsMadeOf judgement level new_text olds = (judgement.level ≡ level) × (judgement.new_text ≡ new_text) × (judgement.olds ≡ olds)
