-- Two texts of one JSON value mean the same schema.
use Rattle.std.proofs.Common.{◌≡◌, ℕ, ◌≤◌, List, [], ◌∷◌, ◌++◌, length, Bool, true, Option, None, Some, option_map, sym, ap, ◌∙◌}
use Rattle.std.proofs.lemmas.Bool.{le-leb}
use Rattle.std.specs.Option.{option_map_or}
use Rattle.serde_json.specs.Data.{Data}
use Rattle.serde_json.specs.Read.{read}
use Rattle.serde_json.specs.Written.{compact_text}
use Rattle.avro_schema.specs.declared.error.SchemaError.TheVariants as fault
use Rattle.avro_schema.specs.Form.{form}
use Rattle.avro_schema.specs.Nodes.{nodes}
use Rattle.avro_schema.specs.Faults.{unless}
use Rattle.avro_schema.specs.Schema.{Meaning, data_faults, schema_of}
use Rattle.avro_schema.specs.declared.limits.TheConstants.{TEXT_LIMIT}

-- what is meant where the text is short enough, or is not, and the JSON value that it writes
abbrev meant_by : Bool → Option Data → Option Meaning
meant_by short o =
    elim (unless short fault.TooLong ++ option_map_or data_faults o (fault.NotJson ∷ [])) [
      | [] ↦ option_map (λ d. record { nodes = nodes (form d); normal_text = compact_text d }) o
      | x ∷ xs ↦ None
    ]

schema_of-read : (text : List ℕ) (d : Data) → read text ≡ Some d → length text ≤ TEXT_LIMIT → schema_of text ≡ meant_by true (Some d)
schema_of-read text d e h = ap (λ b. meant_by b (read text)) (le-leb (length text) TEXT_LIMIT h) ∙ ap (meant_by true) e

pub same_meaning : (normal text : List ℕ) (d : Data) → read normal ≡ Some d → read text ≡ Some d
    → length normal ≤ TEXT_LIMIT → length text ≤ TEXT_LIMIT → schema_of normal ≡ schema_of text
same_meaning normal text d e f p q = schema_of-read normal d e p ∙ sym (schema_of-read text d f q)
