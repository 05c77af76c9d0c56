-- Which values may stand under a key.
use Rattle.std.specs.Prelude.{◌≡◌, ◌⊎◌, ℕ, List, true, Option, Some}
use Rattle.avro_schema.specs.Schema.{is_schema}
use Rattle.reg_level_names.specs.Level.{is_level}
use Rattle.reg_records.specs.declared.key.Key.{Key}
use Rattle.reg_records.specs.declared.key.Key.TheVariants.{Schema, Config, Mode, DeleteSubject, Noop, IdMark}
use Rattle.reg_records.specs.declared.record.Record.{Record}
use Rattle.reg_records.specs.declared.value.Value.{Value}
use Rattle.reg_records.specs.declared.value.Value.TheVariants as values
use Rattle.reg_records.specs.Written.{IsVersionOrId}
use Rattle.reg_values.specs.Value.{value_of}

-- the value may stand under the key, and has a text
abbrev pub IsValueOf : Key → Value → Type 0
IsValueOf key (values.Schema subject version id schema deleted) =
    (key ≡ Schema subject version) × IsVersionOrId version × IsVersionOrId id × (is_schema schema ≡ true)
IsValueOf key (values.Config level) = (scope : Option (List ℕ)) × (key ≡ Config scope) × (is_level level ≡ true)
IsValueOf key (values.Mode mode) = (scope : Option (List ℕ)) × (key ≡ Mode scope)
IsValueOf key (values.DeleteSubject subject version) = (key ≡ DeleteSubject subject) × IsVersionOrId version
IsValueOf key values.Noop = ⊥
IsValueOf key (values.IdMark id) = (key ≡ IdMark) × IsVersionOrId id

-- what is read under a key may stand under it: a version's value names the subject
-- and the version of its key; only no operation has no text
abbrev pub ValuesAreOfKeys : Type 0
ValuesAreOfKeys = (r : Record) (v : Value) → value_of r ≡ Some v → IsValueOf r.key v ⊎ ((r.key ≡ Noop) × (v ≡ values.Noop))
