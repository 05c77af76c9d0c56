-- Why a version's record can't be read.
use Rattle.std.specs.Prelude.{◌≡◌, ℕ, List, true, not, Option, Some, None, is_none}
use Rattle.std.specs.Prelude.{is_some, option_and_then, bytes_eq, codes, if◌then◌else◌}
use Rattle.std.specs.Option.{option_map_or, option_or}
use Rattle.serde_json.specs.Data.{Data}
use Rattle.serde_json.specs.Find.{get, as_object}
use Rattle.serde_json.specs.Read.{read}
use Rattle.reg_fold.specs.avro_schema.Schema.{is_schema}
use Rattle.reg_fold.specs.reg_records.Json.{is_null, text_at, text_where, number_at, has_text_at, has_number_at}
use Rattle.reg_fold.specs.reg_records.declared.key.Key.{Key}
use Rattle.reg_fold.specs.reg_records.declared.key.Key.TheVariants as keys
use Rattle.reg_fold.specs.reg_records.declared.record.Record.{Record}
use Rattle.reg_fold.specs.reg_values.Value.{is_absent_or, is_avro_name, is_empty_list, deleted_in}
use Rattle.reg_fold.specs.Opaque.{is_opaque}
use Rattle.reg_inspection.specs.declared.cause.OpaqueCause.{OpaqueCause}
use Rattle.reg_inspection.specs.declared.cause.OpaqueCause.TheVariants as causes

-- the cause that a type of schemas is, which isn't Avro
abbrev pub type_cause : List ℕ → OpaqueCause
type_cause name = if bytes_eq name (codes "PROTOBUF") then causes.Protobuf
    else (if bytes_eq name (codes "JSON") then causes.JsonSchema else causes.OtherType)

-- what a version's value has that an Avro schema that stands alone has not
abbrev pub beyond_avro : Data → Option OpaqueCause
beyond_avro d =
    if not (is_absent_or is_avro_name (get (codes "schemaType") d))
    then Some (option_map_or type_cause (text_at (codes "schemaType") d) causes.OtherType)
    else (if not (is_absent_or is_empty_list (get (codes "references") d)) then Some causes.References
    else (if not (option_map_or is_null (get (codes "metadata") d) true) then Some causes.Metadata
    else (if not (option_map_or is_null (get (codes "ruleSet") d) true) then Some causes.Rules else None)))

-- which member beside its schema isn't taken: it names the subject and the version of its key, an id, and whether it is deleted
abbrev pub beyond_numbers : List ℕ → ℕ → Data → Option OpaqueCause
beyond_numbers subject version d =
    if not (has_text_at (codes "subject") subject d) then Some causes.Subject
    else (if not (has_number_at (codes "version") version d) then Some causes.Version
    else (if is_none (number_at (codes "id") d) then Some causes.Id
    else (if is_none (deleted_in d) then Some causes.Deleted else None)))

-- its schema isn't there, or can't be read
abbrev pub schema_cause : Data → Option OpaqueCause
schema_cause d = if is_none (text_where is_schema (codes "schema") d) then Some causes.Schema else None

-- the first cause that keeps a JSON value from being that version of the subject
abbrev pub cause_in : List ℕ → ℕ → Data → Option OpaqueCause
cause_in subject version d =
    if is_none (as_object d) then Some causes.NotJson
    else option_or (beyond_avro d) (option_or (beyond_numbers subject version d) (schema_cause d))

-- a version's subject and number
abbrev pub version_in : Key → Option (List ℕ × ℕ)
version_in (keys.Schema subject version) = Some (subject, version)
version_in (keys.Config scope) = None
version_in (keys.Mode scope) = None
version_in (keys.DeleteSubject subject) = None
version_in keys.Noop = None
version_in keys.IdMark = None

-- the first cause that keeps a version's text from being read, if it has a text
abbrev pub cause_of : Record → Option OpaqueCause
cause_of r = option_and_then
    (λ v. option_and_then (λ text. option_map_or (cause_in v.0 v.1) (read text) (Some causes.NotJson)) r.value)
    (version_in r.key)

-- a record has a cause exactly where it is opaque
abbrev pub CausesAreOfOpaque : Type 0
CausesAreOfOpaque = (r : Record) → is_some (cause_of r) ≡ is_opaque r

-- its text
abbrev pub cause_text : OpaqueCause → List ℕ
cause_text causes.NotJson = codes "not a JSON object"
cause_text causes.Protobuf = codes "schema type PROTOBUF"
cause_text causes.JsonSchema = codes "schema type JSON"
cause_text causes.OtherType = codes "another schema type"
cause_text causes.References = codes "references"
cause_text causes.Metadata = codes "metadata"
cause_text causes.Rules = codes "rules"
cause_text causes.Subject = codes "not the subject of its key"
cause_text causes.Version = codes "not the version of its key"
cause_text causes.Id = codes "no id from 1 to 2147483647"
cause_text causes.Deleted = codes "a deleted mark that is no boolean"
cause_text causes.Schema = codes "a schema that can't be read"
