-- Two schemas have a verdict, and a check of a level has a report, whatever is asked.
use Rattle.std.specs.Prelude.{ℕ, List, Option}
use Rattle.avro_resolve.specs.avro_schema.declared.node.Node.{Node}
use Rattle.avro_resolve.specs.declared.resolving.Verdict.{Verdict}
use Rattle.avro_resolve.specs.Verdict.{IsVerdict}
use Rattle.reg_leader.specs.reg_level_names.declared.level.Level.{Level}
use Rattle.reg_leader.specs.reg_levels.LevelVerdict.{IsLevelVerdict}
use Rattle.reg_leader.specs.reg_levels.RequiredPairs.{Version}
use Rattle.reg_leader.specs.reg_levels.Texts.{VersionText}
use Rattle.reg_leader.specs.reg_levels.declared.verdict.LevelVerdict.{LevelVerdict}
use Rattle.reg_leader.specs.reg_rules.Report.{IsReport}

-- the schemas are compatible, or a trail to a clash is shown
abbrev pub VerdictsExist : Type 0
VerdictsExist = (r w : List Node) → (verdict : Verdict) × IsVerdict r w verdict

-- each level has a verdict on a schema and its old versions
abbrev pub LevelVerdictsExist : Type 0
LevelVerdictsExist = (level : Level) (new : List Node) (olds : List Version)
    → (verdict : LevelVerdict) × IsLevelVerdict level new olds verdict

-- a check of texts has a report: the level is met, or there is a message of the first required pair that clashes
abbrev pub ReportsExist : Type 0
ReportsExist = (level : Level) (new : List ℕ) (olds : List VersionText) → (message : Option (List ℕ)) × IsReport level new olds message
