-- The id up to which ids were given away, as far as the records say. Below, rs are
-- the last records. (Marks of soft deletes are another thing.)
use Rattle.std.specs.Prelude.{◌≤◌, ℕ, max, Bool, nat_lt, Option, Some, None, option_and_then, unwrap_or}
use Rattle.reg_values.specs.reg_records.declared.key.Key.TheVariants as keys
use Rattle.reg_values.specs.reg_records.declared.limits.TheConstants.{NUMBER_LIMIT}
use Rattle.reg_values.specs.reg_records.declared.record.Record.{Record}
use Rattle.reg_values.specs.reg_records.declared.value.Value.{Value}
use Rattle.reg_values.specs.reg_records.declared.value.Value.TheVariants as values
use Rattle.reg_values.specs.Value.{value_of}
use Rattle.reg_set.specs.LastRecords.{last}
use Rattle.reg_set.specs.Records.{Records}
use Rattle.reg_fold.specs.Standing.{greatest_id}

-- the id that a value marks
abbrev pub id_marked_in : Value → Option ℕ
id_marked_in (values.Schema subject version id schema deleted) = None
id_marked_in (values.Config name) = None
id_marked_in (values.Mode name) = None
id_marked_in (values.DeleteSubject subject version) = None
id_marked_in values.Noop = None
id_marked_in (values.IdMark id) = Some id

-- the id that a record marks
unfoldable pub id_marked_of : Record → Option ℕ
id_marked_of r = option_and_then id_marked_in (value_of r)

-- the mark: the id of the ID_MARK key's last record; 0 where there is none, or it can't be read
unfoldable pub id_mark : Records → ℕ
id_mark rs = unwrap_or (option_and_then id_marked_of (last rs keys.IdMark)) 0

-- the greatest id that is marked or that an entry has; 0 where there is none
abbrev pub last_id : Records → ℕ
last_id rs = max (id_mark rs) (unwrap_or (greatest_id rs) 0)

-- whether a topic over these begins with a mark: the id of an entry is above the one that they have
abbrev pub needs_mark : Records → Bool
needs_mark rs = nat_lt (id_mark rs) (unwrap_or (greatest_id rs) 0)

-- the mark is 0 or an id within its limits
abbrev pub IdMarkIsInLimits : Type 0
IdMarkIsInLimits = (rs : Records) → id_mark rs ≤ NUMBER_LIMIT
