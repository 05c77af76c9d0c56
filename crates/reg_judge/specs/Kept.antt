-- Private: what a judge keeps, and how a judgement goes on.
use Rattle.std.specs.Prelude.{◌≡◌, ◌⊎◌, ◌++◌, ℕ, List, [], ◌∷◌, Some, false, Contains, map, reverse, flat_map, String, string_bytes}
use Rattle.avro_resolve.specs.avro_schema.Schema.{schema_of}
use Rattle.avro_resolve.specs.Trails.{IsShown}
use Rattle.avro_resolve.specs.Verdict.{IsVerdict}
use Rattle.avro_resolve.specs.declared.trail.Trail.{Trail}
use Rattle.avro_resolve.specs.declared.resolving.Verdict.{Verdict}
use Rattle.avro_resolve.specs.declared.resolving.Verdict.TheVariants.{Compatible, Clash}
use Rattle.reg_level_names.specs.declared.level.Level.{Level}
use Rattle.reg_levels.specs.declared.direction.Direction.{Direction}
use Rattle.reg_levels.specs.declared.judged_error.JudgedError.{JudgedError}
use Rattle.reg_levels.specs.declared.judged_error.JudgedError.TheVariants.{NewText, OldText, OutOfMemory}
use Rattle.reg_levels.specs.declared.verdict.LevelVerdict.{LevelVerdict}
use Rattle.reg_levels.specs.Judgement.{first_unread}
use Rattle.reg_levels.specs.LevelVerdict.{passed, failed}
use Rattle.reg_levels.specs.RequiredPairs.{Required, directions}
use Rattle.reg_levels.specs.Texts.{VersionText, nodes_in}
use Rattle.reg_judge.specs.declared.kept_schema.KeptSchema.{KeptSchema}
use Rattle.reg_judge.specs.Judge.{TextPair, IsCompatiblePair, text_pair}

-- each of them is so
abbrev pub AllAre : {X : Type 0} → (X → Type 0) → List X → Type 0
AllAre {X} P xs = (x : X) → Contains xs x → P x

-- the verdict is that of the schemas of the texts
abbrev pub IsPairVerdict : TextPair → Verdict → Type 0
IsPairVerdict p = IsVerdict (nodes_in p.0) (nodes_in p.1)

module _ {Z : Type 0} where
  -- the schema is that of its text
  unfoldable pub IsSchemaOf : String Z × KeptSchema → Type 0
  IsSchemaOf e = schema_of (string_bytes e.0) ≡ Some e.1.schema

  abbrev pub AreSchemas : List (String Z × KeptSchema) → Type 0
  AreSchemas = AllAre IsSchemaOf

  -- the texts that there is a schema of
  abbrev pub texts_in : List (String Z × KeptSchema) → List (List ℕ)
  texts_in es = map (λ e. string_bytes e.0) es

  abbrev pub texts_of : String Z × String Z → TextPair
  texts_of pair = (string_bytes pair.0, string_bytes pair.1)

  -- the verdict is that of its pair
  unfoldable pub IsVerdictOf : (String Z × String Z) × Verdict → Type 0
  IsVerdictOf e = IsPairVerdict (texts_of e.0) e.1

  abbrev pub AreVerdicts : List ((String Z × String Z) × Verdict) → Type 0
  AreVerdicts = AllAre IsVerdictOf

  -- the pairs that there is a verdict on
  abbrev pub pairs_of : List ((String Z × String Z) × Verdict) → List TextPair
  pairs_of es = map (λ e. texts_of e.0) es

-- a pair that is asked for, and the version and direction that it is asked for
pub record Asked : Type 0 where
  pub version : ℕ
  pub direction : Direction
  pub texts : TextPair

abbrev pub asked : List ℕ → VersionText → Direction → Asked
asked new old direction = record { version = old.0; direction = direction; texts = text_pair new old direction }

abbrev pub asked_of : Level → List ℕ → VersionText → List Asked
asked_of level new old = map (asked new old) (directions level)

-- those of the old versions, the last one's first
abbrev pub asked_from : Level → List ℕ → List VersionText → List Asked
asked_from level new olds = flat_map (asked_of level new) (reverse olds)

abbrev pub required_by : Asked → Required
required_by a = record { version = a.version; direction = a.direction; reader = nodes_in a.texts.0; writer = nodes_in a.texts.1 }

-- those of the pairs asked for that are judged, and the verdict that comes of them
abbrev pub IsRun : List Asked → List TextPair → LevelVerdict → Type 0
IsRun [] judged v = (judged ≡ []) × (v ≡ passed)
IsRun (a ∷ more) judged v =
    (rest : List TextPair) × (judged ≡ a.texts ∷ rest)
    × ((IsCompatiblePair a.texts × IsRun more rest v)
    ⊎ ((trail : Trail) × IsShown (nodes_in a.texts.0) (nodes_in a.texts.1) trail × (rest ≡ []) × (v ≡ failed (required_by a) trail)))

-- where some are judged, those that are left decide
abbrev pub LeadsTo : List Asked → List TextPair → List Asked → Type 0
LeadsTo all done left = (rest : List TextPair) (v : LevelVerdict) → IsRun left rest v → IsRun all (done ++ rest) v

-- what the verdict on one pair says of its version and direction
abbrev pub outcome_of : ℕ → Direction → Verdict → LevelVerdict
outcome_of version direction Compatible = passed
outcome_of version direction (Clash trail) = record { ok = false; version = Some version; direction = Some direction; trail = Some trail }

-- an old text was no schema's, or memory was refused
abbrev pub IsUnread : List VersionText → JudgedError → Type 0
IsUnread olds NewText = ⊥
IsUnread olds (OldText version) = first_unread olds ≡ Some version
IsUnread olds OutOfMemory = Unit {0}
