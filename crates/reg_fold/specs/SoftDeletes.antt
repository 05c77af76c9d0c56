-- Private: what is kept of the last soft delete of each subject. Below, rs are the last records.
use Rattle.std.specs.Prelude.{ℕ, Option, Some, None, option_and_then}
use Rattle.reg_values.specs.Value.{value_of}
use Rattle.reg_values.specs.reg_records.declared.key.Key.TheVariants as keys
use Rattle.reg_values.specs.reg_records.declared.record.Record.{Record}
use Rattle.reg_values.specs.reg_records.declared.value.Value.{Value}
use Rattle.reg_values.specs.reg_records.declared.value.Value.TheVariants as values
use Rattle.reg_set.specs.LastRecords.{last}
use Rattle.reg_set.specs.Records.{Records}
use Rattle.reg_fold.specs.InForce.{Scope}
use Rattle.reg_entries.specs.declared.soft_delete.SoftDelete.{SoftDelete}

-- the soft delete that a value at an offset is
abbrev pub delete_in : ℕ → Value → Option SoftDelete
delete_in at (values.Schema subject version id schema deleted) = None
delete_in at (values.Config level) = None
delete_in at (values.Mode mode) = None
delete_in at (values.DeleteSubject subject greatest) = Some (record { offset = at; version = greatest })
delete_in at values.Noop = None
delete_in at (values.IdMark id) = None

-- the soft delete that a record is
unfoldable pub delete_of : Record → Option SoftDelete
delete_of r = option_and_then (delete_in r.offset) (value_of r)

-- the last soft delete of a subject: what the last record of its DELETE_SUBJECT key is
unfoldable pub own_delete : Records → Scope → Option SoftDelete
own_delete rs None = None
own_delete rs (Some subject) = option_and_then delete_of (last rs (keys.DeleteSubject subject))
