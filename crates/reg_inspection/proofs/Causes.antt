-- A record has a cause exactly where it is opaque.
use Rattle.std.proofs.Common.{◌≡◌, ℕ, Bool, true, false, not, ◌&&◌, List, Option, Some}
use Rattle.std.proofs.Common.{None, option_and_then, option_map, refl, sym, ap, ◌∙◌}
use Rattle.std.specs.Option.{option_map_or, option_or}
use Rattle.std.specs.Prelude.{codes, is_none, is_some, if◌then◌else◌}
use Rattle.serde_json.specs.Data.{Data, null, boolean, number, string, array, object}
use Rattle.serde_json.specs.Find.{get}
use Rattle.serde_json.specs.Read.{read}
use Rattle.reg_fold.specs.avro_schema.Schema.{is_schema}
use Rattle.reg_fold.specs.reg_records.Json.{is_null, text_at, text_where, number_at, has_text_at, has_number_at}
use Rattle.reg_fold.specs.reg_records.declared.key.Key.{Key}
use Rattle.reg_fold.specs.reg_records.declared.key.Key.TheVariants as keys
use Rattle.reg_fold.specs.reg_records.declared.value.Value.{Value}
use Rattle.reg_fold.specs.reg_records.declared.value.Value.TheVariants as values
use Rattle.reg_fold.specs.reg_values.Value.{is_absent_or, is_avro_name, is_empty_list, is_plain_avro, deleted_in, value_in, value_of_text}
use Rattle.reg_fold.specs.Opaque.{is_opaque, is_version}
use Rattle.reg_inspection.specs.Cause.{CausesAreOfOpaque, beyond_avro, cause_in, type_cause, version_in}
use Rattle.reg_inspection.specs.declared.cause.OpaqueCause.{OpaqueCause}
use Rattle.reg_inspection.specs.declared.cause.OpaqueCause.TheVariants as causes

abbrev avro_part : OpaqueCause → Bool → Bool → Bool → Bool → Option OpaqueCause
avro_part other a b c d =
    if not a then Some other else (
    if not b then Some causes.References else (if not c then Some causes.Metadata else (if not d then Some causes.Rules else None)))

is_plain : (other : OpaqueCause) (a b c d : Bool) → is_none (avro_part other a b c d) ≡ (a && b && c && d)
is_plain other false b c d = refl
is_plain other true false c d = refl
is_plain other true true false d = refl
is_plain other true true true false = refl
is_plain other true true true true = refl

abbrev numbers_part : Bool → Bool → Option ℕ → Option Bool → Option OpaqueCause
numbers_part s v i d =
    if not s then Some causes.Subject else (
    if not v then Some causes.Version else (if is_none i then Some causes.Id else (if is_none d then Some causes.Deleted else None)))

abbrev schema_part : Option (List ℕ) → Option OpaqueCause
schema_part t = if is_none t then Some causes.Schema else None

abbrev value_part : List ℕ → ℕ → Bool → Option ℕ → Option Bool → Option (List ℕ) → Option Value
value_part subject version whole i d t =
    if whole then option_and_then (λ id. option_and_then (λ schema. option_map (values.Schema subject version id schema) d) t) i else None

never : (s v : Bool) → (s && v && false) ≡ false
never true true = refl
never true false = refl
never false v = refl

module _ (subject : List ℕ) (version : ℕ) where
  plain_parts : (s v : Bool) (i : Option ℕ) (d : Option Bool) (t : Option (List ℕ))
      → is_some (option_or (numbers_part s v i d) (schema_part t)) ≡ is_none (value_part subject version (s && v && true) i d t)
  plain_parts false v i d t = refl
  plain_parts true false i d t = refl
  plain_parts true true None d t = refl
  plain_parts true true (Some id) None None = refl
  plain_parts true true (Some id) None (Some text) = refl
  plain_parts true true (Some id) (Some deleted) None = refl
  plain_parts true true (Some id) (Some deleted) (Some text) = refl

  parts : (beyond : Option OpaqueCause) (plain : Bool) → is_none beyond ≡ plain
      → (s v : Bool) (i : Option ℕ) (d : Option Bool) (t : Option (List ℕ))
      → is_some (option_or beyond (option_or (numbers_part s v i d) (schema_part t)))
      ≡ is_none (value_part subject version (s && v && plain) i d t)
  parts (Some cause) plain is s v i d t =
      sym (ap (λ b. is_none (value_part subject version b i d t)) (ap (λ p. s && v && p) (sym is) ∙ never s v))
  parts None plain is s v i d t =
      plain_parts s v i d t ∙ ap (λ p. is_none (value_part subject version (s && v && p) i d t)) is

  of_data : (d : Data) → is_some (cause_in subject version d) ≡ is_none (value_in (keys.Schema subject version) d)
  of_data null = refl
  of_data (boolean b) = refl
  of_data (number n) = refl
  of_data (string s) = refl
  of_data (array ds) = refl
  of_data (object ms) =
      let d : Data = object ms in
      parts (beyond_avro d) (is_plain_avro d)
      (is_plain (option_map_or type_cause (text_at (codes "schemaType") d) causes.OtherType)
      (is_absent_or is_avro_name (get (codes "schemaType") d)) (is_absent_or is_empty_list (get (codes "references") d))
      (option_map_or is_null (get (codes "metadata") d) true) (option_map_or is_null (get (codes "ruleSet") d) true))
      (has_text_at (codes "subject") subject d) (has_number_at (codes "version") version d) (number_at (codes "id") d) (deleted_in d)
      (text_where is_schema (codes "schema") d)

  of_text : (o : Option Data)
      → is_some (option_map_or (cause_in subject version) o (Some causes.NotJson))
      ≡ is_none (option_and_then (value_in (keys.Schema subject version)) o)
  of_text None = refl
  of_text (Some d) = of_data d

of_value : (key : Key) (value : Option (List ℕ))
    → is_some (
    option_and_then (λ v. option_and_then (λ text. option_map_or (cause_in v.0 v.1) (read text) (Some causes.NotJson)) value)
    (version_in key))
    ≡ (is_version key && is_some value && is_none (option_and_then (value_of_text key) value))
of_value (keys.Schema subject version) None = refl
of_value (keys.Schema subject version) (Some text) = of_text subject version (read text)
of_value (keys.Config scope) value = refl
of_value (keys.Mode scope) value = refl
of_value (keys.DeleteSubject subject) value = refl
of_value keys.Noop value = refl
of_value keys.IdMark value = refl

pub causes_are_of_opaque : CausesAreOfOpaque
unfolding is_opaque
causes_are_of_opaque r = of_value r.key r.value
