-- What the verdict on a list of required pairs is.
use Rattle.std.specs.Prelude.{◌≡◌, ◌⊎◌, ◌↔◌, IsTrue, List, [], ◌∷◌, true, false, Some, None, All}
use Rattle.avro_resolve.specs.avro_schema.declared.node.Node.{Node}
use Rattle.avro_resolve.specs.declared.trail.Trail.{Trail}
use Rattle.avro_resolve.specs.Trails.{AreCompatible, IsShown}
use Rattle.reg_level_names.specs.declared.level.Level.{Level}
use Rattle.reg_levels.specs.declared.verdict.LevelVerdict.{LevelVerdict}
use Rattle.reg_levels.specs.RequiredPairs.{Required, Version, required_pairs}

abbrev pub IsCompatible : Required → Type 0
IsCompatible p = AreCompatible p.reader p.writer

-- the new schema meets the level: each required pair is compatible
abbrev pub Meets : Level → List Node → List Version → Type 0
Meets level new olds = All IsCompatible (required_pairs level new olds)

abbrev pub passed : LevelVerdict
passed = record { ok = true; version = None; direction = None; trail = None }

abbrev pub failed : Required → Trail → LevelVerdict
failed p trail = record { ok = false; version = Some p.version; direction = Some p.direction; trail = Some trail }

-- Of the first pair that clashes the trail is reported; where none does, nothing is.
abbrev pub IsVerdictOn : List Required → LevelVerdict → Type 0
IsVerdictOn [] v = v ≡ passed
IsVerdictOn (p ∷ ps) v =
    (IsCompatible p × IsVerdictOn ps v) ⊎ ((trail : Trail) × IsShown p.reader p.writer trail × (v ≡ failed p trail))

-- the verdict of a level
abbrev pub IsLevelVerdict : Level → List Node → List Version → LevelVerdict → Type 0
IsLevelVerdict level new olds = IsVerdictOn (required_pairs level new olds)

-- a verdict is good exactly where the level is met
abbrev pub IsOkWhereMet : Level → List Node → List Version → LevelVerdict → Type 0
IsOkWhereMet level new olds v = IsTrue v.ok ↔ Meets level new olds

-- no two verdicts are that of the same pairs
abbrev pub HaveOneLevelVerdict : Type 0
HaveOneLevelVerdict = (ps : List Required) (u v : LevelVerdict) → IsVerdictOn ps u → IsVerdictOn ps v → u ≡ v
