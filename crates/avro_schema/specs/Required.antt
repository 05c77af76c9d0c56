-- Private: the fields that an object default of a record has to have.
use Rattle.std.specs.Prelude.{ℕ, List, map, filter, is_none, is_some, Bool}
use Rattle.std.specs.List.{list_all}
use Rattle.serde_json.specs.Data.{Members}
use Rattle.serde_json.specs.Find.{get_member}
use Rattle.avro_schema.specs.declared.node.Field.{Field}
use Rattle.avro_schema.specs.declared.node.Node.{Node}
use Rattle.avro_schema.specs.Sound.{fields_of_node}

-- the names of the fields without a default
abbrev pub required_in : List Field → List (List ℕ)
required_in fs = map (λ f. f.name) (filter (λ f. is_none f.default) fs)

abbrev pub required_of : Node → List (List ℕ)
required_of n = required_in (fields_of_node n)

-- whether each of the names is a member's
abbrev pub have_all : Members → List (List ℕ) → Bool
have_all ms names = list_all (λ s. is_some (get_member s ms)) names
