-- The level in force, and the modes that scopes have. Below, rs are the last records, and a scope is a subject, or None for all subjects.
use Rattle.std.specs.Prelude.{ℕ, List, Option, Some, None, option_and_then, unwrap_or}
use Rattle.std.specs.Option.{option_or}
use Rattle.reg_values.specs.reg_level_names.Level.{level_named}
use Rattle.reg_values.specs.reg_level_names.declared.level.Level.{Level}
use Rattle.reg_values.specs.reg_level_names.declared.level.Level.TheVariants.{Backward}
use Rattle.reg_values.specs.Value.{value_of}
use Rattle.reg_values.specs.reg_records.declared.key.Key.TheVariants as keys
use Rattle.reg_values.specs.reg_records.declared.value.Value.{Value}
use Rattle.reg_values.specs.reg_records.declared.value.Value.TheVariants as values
use Rattle.reg_values.specs.reg_records.declared.record.Record.{Record}
use Rattle.reg_set.specs.LastRecords.{last}
use Rattle.reg_set.specs.Records.{Records}

abbrev pub Scope : Type 0
Scope = Option (List ℕ)

-- the level that a value names
abbrev pub level_in : Value → Option Level
level_in (values.Schema subject version id schema deleted) = None
level_in (values.Config name) = level_named name
level_in (values.Mode name) = None
level_in (values.DeleteSubject subject version) = None
level_in values.Noop = None
level_in (values.IdMark id) = None

-- the level that a record names
unfoldable pub level_of : Record → Option Level
level_of r = option_and_then level_in (value_of r)

-- the level that a scope has of its own: that of its CONFIG key's last record
unfoldable pub own_level : Records → Scope → Option Level
own_level rs scope = option_and_then level_of (last rs (keys.Config scope))

-- the level in force: the scope's own, else the one for all subjects, else BACKWARD
abbrev pub level : Records → Scope → Level
level rs scope = unwrap_or (option_or (own_level rs scope) (own_level rs None)) Backward

-- the name of the mode that a value has, as its record has it
abbrev pub mode_name_in : Value → Option (List ℕ)
mode_name_in (values.Schema subject version id schema deleted) = None
mode_name_in (values.Config name) = None
mode_name_in (values.Mode name) = Some name
mode_name_in (values.DeleteSubject subject version) = None
mode_name_in values.Noop = None
mode_name_in (values.IdMark id) = None

-- the name of the mode that a record has
unfoldable pub mode_name_of : Record → Option (List ℕ)
mode_name_of r = option_and_then mode_name_in (value_of r)

-- the name of the mode that a scope has of its own: that of its MODE key's last record
unfoldable pub own_mode_name : Records → Scope → Option (List ℕ)
own_mode_name rs scope = option_and_then mode_name_of (last rs (keys.Mode scope))
