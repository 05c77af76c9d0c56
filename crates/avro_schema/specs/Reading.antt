-- What a registry asks of a schema that was read.
use Rattle.std.specs.Prelude.{ℕ, List, [], ◌∷◌, Bool, true, false, Option, option_map}
use Rattle.avro_schema.specs.Defaults.{bad_defaults}
use Rattle.avro_schema.specs.Schema.{Meaning, schema_of}

-- its normal text, and whether each default in it is a value of its field's type
pub record Reading : Type 0 where
  pub normal : List ℕ
  pub has_valid_defaults : Bool

abbrev pub has_valid_defaults : Meaning → Bool
has_valid_defaults schema = elim (bad_defaults schema.nodes) [ [] ↦ true | field ∷ fields ↦ false ]

abbrev pub kept_of : Meaning → Reading
kept_of schema = record { normal = schema.normal_text; has_valid_defaults = has_valid_defaults schema }

-- the normal text of the schema that a text means
abbrev pub normal_of : List ℕ → Option (List ℕ)
normal_of text = option_map (λ schema. schema.normal_text) (schema_of text)

-- what reading a text gives, where it means a schema
abbrev pub reading_of : List ℕ → Option Reading
reading_of text = option_map kept_of (schema_of text)
