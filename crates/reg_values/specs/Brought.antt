-- Private: what is looked at in a value that its text brings along.
use Rattle.std.specs.Prelude.{◌≡◌, ⊤, ℕ, List, true, Option}
use Rattle.avro_schema.specs.Schema.{is_schema}
use Rattle.reg_level_names.specs.Level.{is_level}
use Rattle.reg_records.specs.declared.key.Key.{Key}
use Rattle.reg_records.specs.declared.key.Key.TheVariants.{Schema, Config, Mode, DeleteSubject, IdMark}
use Rattle.reg_records.specs.declared.value.Value.{Value}
use Rattle.reg_records.specs.declared.value.Value.TheVariants as values
use Rattle.reg_records.specs.Written.{IsVersionOrId}

-- the value may stand under the key, if its text is a schema
abbrev pub MayStandUnder : Key → Value → Type 0
MayStandUnder key (values.Schema subject version id schema deleted) =
    (key ≡ Schema subject version) × IsVersionOrId version × IsVersionOrId id
MayStandUnder key (values.Config level) = (scope : Option (List ℕ)) × (key ≡ Config scope) × (is_level level ≡ true)
MayStandUnder key (values.Mode mode) = (scope : Option (List ℕ)) × (key ≡ Mode scope)
MayStandUnder key (values.DeleteSubject subject version) = (key ≡ DeleteSubject subject) × IsVersionOrId version
MayStandUnder key values.Noop = ⊥
MayStandUnder key (values.IdMark id) = (key ≡ IdMark) × IsVersionOrId id

-- a version's text is a schema
abbrev pub HasSchema : Value → Type 0
HasSchema (values.Schema subject version id schema deleted) = is_schema schema ≡ true
HasSchema (values.Config level) = ⊤
HasSchema (values.Mode mode) = ⊤
HasSchema (values.DeleteSubject subject version) = ⊤
HasSchema values.Noop = ⊤
HasSchema (values.IdMark id) = ⊤
