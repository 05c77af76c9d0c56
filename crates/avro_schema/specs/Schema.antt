-- What a schema's text means, or the faults in it. The way from a text to its nodes:
-- `read` gives the JSON data that a text writes, if any;
-- Form.antt the form of the type that the data writes, before any name is looked up;
-- Places.antt the types in a form, in the order in which they open, each with the namespace that
-- applies to it and the number of nodes before it, and the definitions among them;
-- Nodes.antt the node of each place, with the uses looked up among the definitions;
-- Faults.antt what is wrong at each place.
-- A text means a schema exactly where its list of faults is empty. Names.antt says what names are,
-- Defaults.antt which defaults are valid, Sound.antt what holds of the nodes of every schema.
use Rattle.std.specs.Prelude.{◌≢◌, ℕ, List, [], ◌∷◌, ◌++◌, length, Bool, true, false, not}
use Rattle.std.specs.Prelude.{nat_le, Option, None, option_map, is_some, Contains, codes}
use Rattle.std.specs.Option.{option_map_or}
use Rattle.serde_json.specs.Data.{Data}
use Rattle.serde_json.specs.Read.{read}
use Rattle.serde_json.specs.Written.{has_float, compact_text}
use Rattle.avro_schema.specs.declared.error.SchemaError.{SchemaError}
use Rattle.avro_schema.specs.declared.error.SchemaError.TheVariants as fault
use Rattle.avro_schema.specs.declared.node.Node.{Node}
use Rattle.avro_schema.specs.Form.{form}
use Rattle.avro_schema.specs.Places.{count}
use Rattle.avro_schema.specs.Nodes.{nodes}
use Rattle.avro_schema.specs.Faults.{unless, form_faults}
use Rattle.avro_schema.specs.declared.limits.TheConstants.{TEXT_LIMIT, SCHEMA_NODES_LIMIT}

abbrev pub is_memory : SchemaError → Bool
is_memory fault.OutOfMemory = true
is_memory _ = false

-- the text of an error
abbrev pub error_name : SchemaError → List ℕ
error_name fault.NotJson = codes "NotJson"
error_name fault.FloatNumber = codes "FloatNumber"
error_name fault.BadName = codes "BadName"
error_name fault.Redefined = codes "Redefined"
error_name (fault.Unknown s) = codes "Unknown"
error_name fault.BadUnion = codes "BadUnion"
error_name fault.BadEnum = codes "BadEnum"
error_name fault.BadFixed = codes "BadFixed"
error_name fault.BadForm = codes "BadForm"
error_name fault.TooManyNodes = codes "TooManyNodes"
error_name fault.TooLong = codes "TooLong"
error_name fault.OutOfMemory = codes "out of memory"

-- the answer that memory was refused, or one of the faults es
abbrev pub IsRefusalBy : List SchemaError → SchemaError → Type 0
IsRefusalBy es e = e ≢ fault.OutOfMemory → Contains es e

-- what a schema's text means: its nodes, the root first, and the text with no spaces and each object's members in byte order of their names
pub record Meaning : Type 0 where
  pub nodes : List Node
  pub normal_text : List ℕ

abbrev pub data_faults : Data → List SchemaError
data_faults d = unless (not (has_float d)) fault.FloatNumber
    ++ unless (nat_le (count (form d)) SCHEMA_NODES_LIMIT) fault.TooManyNodes ++ form_faults (form d)

-- the faults of a text
abbrev pub faults : List ℕ → List SchemaError
faults text = unless (nat_le (length text) TEXT_LIMIT) fault.TooLong ++ option_map_or data_faults (read text) (fault.NotJson ∷ [])

-- what a text means, where no fault stands in it
abbrev pub schema_of : List ℕ → Option Meaning
schema_of text = elim (faults text) [
  | [] ↦ option_map (λ d. record { nodes = nodes (form d); normal_text = compact_text d }) (read text)
  | e ∷ es ↦ None
]

-- whether a text means a schema
abbrev pub is_schema : List ℕ → Bool
is_schema text = is_some (schema_of text)
