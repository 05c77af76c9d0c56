-- The query by a schema: which version of a subject has it? Below, es are all entries.
use Rattle.std.specs.Prelude.{ℕ, List, Bool, Result}
use Rattle.std.specs.List.{filter}
use Rattle.std.specs.Option.{ok_or}
use Rattle.reg_modes.specs.avro_schema.Schema.{Meaning, schema_of}
use Rattle.reg_modes.specs.reg_entries.Sought.{has_schema, newest}
use Rattle.reg_modes.specs.reg_entries.declared.entry.Entry.{Entry}
use Rattle.reg_modes.specs.reg_refusals.declared.refusal.Refusal.{Refusal}
use Rattle.reg_modes.specs.reg_refusals.declared.refusal.Refusal.TheVariants.{SchemaNotFound, InvalidSchema}
use Rattle.reg_lookup.specs.Bodies.{entry_body}
use Rattle.reg_lookup.specs.Found.{counted, and_then, found_map}

-- what a text means; its defaults aren't looked at
abbrev pub read_schema : List ℕ → Result Meaning Refusal
read_schema text = ok_or (schema_of text) InvalidSchema

-- of some entries the greatest version of a schema
abbrev pub latest_with : List ℕ → List Entry → Result Entry Refusal
latest_with normal es = ok_or (newest (filter (has_schema normal) es)) SchemaNotFound

-- of the subject's versions that count the greatest one with the schema; the text is read first
abbrev pub lookup : List Entry → List ℕ → List ℕ → Bool → Result (List ℕ) Refusal
lookup es subject text deleted =
    and_then (λ schema. found_map entry_body (and_then (latest_with schema.normal_text) (counted es subject deleted))) (read_schema text)
