-- The value that a record's text gives, which its key has a say in.
use Rattle.std.specs.Prelude.{List, ℕ, Bool, true, false, ◌&&◌, ◌||◌, Option, Some, None, is_none}
use Rattle.std.specs.Prelude.{option_map, option_and_then, bytes_eq, codes, if◌then◌else◌}
use Rattle.std.specs.Option.{option_map_or}
use Rattle.serde_json.specs.Data.{Data}
use Rattle.serde_json.specs.Find.{get, get_item, as_bool, as_str, as_array}
use Rattle.serde_json.specs.Read.{read}
use Rattle.avro_schema.specs.Schema.{Meaning, schema_of, is_schema}
use Rattle.reg_level_names.specs.Level.{is_level}
use Rattle.reg_records.specs.Json.{is_null, text_at, text_where, number_at, has_text_at, has_number_at}
use Rattle.reg_records.specs.declared.key.Key.{Key}
use Rattle.reg_records.specs.declared.key.Key.TheVariants as keys
use Rattle.reg_records.specs.declared.value.Value.{Value}
use Rattle.reg_records.specs.declared.value.Value.TheVariants as values
use Rattle.reg_records.specs.declared.record.Record.{Record}

-- a list without items
abbrev pub is_empty_list : Data → Bool
is_empty_list d = option_map_or (λ items. is_none (get_item 0 items)) (as_array d) false

-- the member is absent or null, or it is as the test has it
abbrev pub is_absent_or : (Data → Bool) → Option Data → Bool
is_absent_or test found = option_map_or (λ d. is_null d || test d) found true

-- the string `AVRO`
abbrev pub is_avro_name : Data → Bool
is_avro_name d = option_map_or (λ name. bytes_eq name (codes "AVRO")) (as_str d) false

-- the schema is an Avro schema that stands alone: no other type, no references, no metadata, no rules, where null is as good as absent
abbrev pub is_plain_avro : Data → Bool
is_plain_avro d = is_absent_or is_avro_name (get (codes "schemaType") d) && is_absent_or is_empty_list (get (codes "references") d)
    && option_map_or is_null (get (codes "metadata") d) true && option_map_or is_null (get (codes "ruleSet") d) true

-- whether the version is marked as deleted: no where the member is absent or null
abbrev pub deleted_in : Data → Option Bool
deleted_in d = option_map_or (λ mark. if is_null mark then Some false else as_bool mark) (get (codes "deleted") d) (Some false)

-- the value that a JSON value is, under that key; its texts are kept as they stand
-- a version names the key's subject and version again, and its schema's text can be read as a schema, whose defaults aren't looked at
-- a level is the name of one, and a mode is any text
-- a soft delete names the key's subject again, and the last version that it covers
-- a mark of ids is a number within the limits of ids
abbrev pub value_in : Key → Data → Option Value
value_in (keys.Schema subject version) d =
    if has_text_at (codes "subject") subject d && has_number_at (codes "version") version d && is_plain_avro d
    then option_and_then (λ id. option_and_then (λ schema. option_map (values.Schema subject version id schema) (deleted_in d))
    (text_where is_schema (codes "schema") d)) (number_at (codes "id") d) else None
value_in (keys.Config scope) d = option_map values.Config (text_where is_level (codes "compatibilityLevel") d)
value_in (keys.Mode scope) d = option_map values.Mode (text_at (codes "mode") d)
value_in (keys.DeleteSubject subject) d =
    if has_text_at (codes "subject") subject d then option_map (values.DeleteSubject subject) (number_at (codes "version") d) else None
value_in keys.Noop d = Some values.Noop
value_in keys.IdMark d = option_map values.IdMark (number_at (codes "id") d)

-- the key of no operation
abbrev pub is_noop : Key → Bool
is_noop (keys.Schema subject version) = false
is_noop (keys.Config scope) = false
is_noop (keys.Mode scope) = false
is_noop (keys.DeleteSubject subject) = false
is_noop keys.Noop = true
is_noop keys.IdMark = false

-- the value that a text gives under that key: no operation is any text, JSON or not, and under every other key a JSON value is read
abbrev pub value_of_text : Key → List ℕ → Option Value
value_of_text key text = if is_noop key then Some values.Noop else option_and_then (value_in key) (read text)

-- the value of a record; a record without text has none, and one that can't be read has none
abbrev pub value_of : Record → Option Value
value_of r = option_and_then (value_of_text r.key) r.value

-- the schema that a version's value has
abbrev pub schema_in : Value → Option Meaning
schema_in (values.Schema subject version id schema deleted) = schema_of schema
schema_in (values.Config level) = None
schema_in (values.Mode mode) = None
schema_in (values.DeleteSubject subject version) = None
schema_in values.Noop = None
schema_in (values.IdMark id) = None

-- the normal text of that schema
abbrev pub normal_in : Value → Option (List ℕ)
normal_in v = option_map (λ schema. schema.normal_text) (schema_in v)
