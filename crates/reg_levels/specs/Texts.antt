-- Schemas that are given by their texts.
use Rattle.std.specs.Prelude.{ℕ, List, [], map}
use Rattle.std.specs.Option.{option_map_or}
use Rattle.avro_resolve.specs.avro_schema.declared.node.Node.{Node}
use Rattle.avro_resolve.specs.avro_schema.Schema.{schema_of}
use Rattle.reg_level_names.specs.declared.level.Level.{Level}
use Rattle.reg_levels.specs.declared.verdict.LevelVerdict.{LevelVerdict}
use Rattle.reg_levels.specs.RequiredPairs.{Version}
use Rattle.reg_levels.specs.LevelVerdict.{IsLevelVerdict, Meets}

-- the nodes of the schema that a text means; none where it means none
abbrev pub nodes_in : List ℕ → List Node
nodes_in text = option_map_or (λ m. m.nodes) (schema_of text) []

-- a version, and the text of its schema
abbrev pub VersionText : Type 0
VersionText = ℕ × List ℕ

abbrev pub versions_in : List VersionText → List Version
versions_in olds = map (λ old. (old.0, nodes_in old.1)) olds

abbrev pub IsVerdictOfTexts : Level → List ℕ → List VersionText → LevelVerdict → Type 0
IsVerdictOfTexts level new olds = IsLevelVerdict level (nodes_in new) (versions_in olds)

abbrev pub TextsMeet : Level → List ℕ → List VersionText → Type 0
TextsMeet level new olds = Meets level (nodes_in new) (versions_in olds)
