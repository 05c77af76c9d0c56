-- What the last soft delete of a subject covers. Below, rs are the last records.
use Rattle.std.specs.Prelude.{ℕ, List, Bool, false, ◌&&◌, nat_le, nat_lt}
use Rattle.std.specs.Option.{option_map_or}
use Rattle.reg_values.specs.Value.{value_of}
use Rattle.reg_values.specs.reg_records.declared.key.Key.TheVariants as keys
use Rattle.reg_values.specs.reg_records.declared.value.Value.{Value}
use Rattle.reg_values.specs.reg_records.declared.value.Value.TheVariants as values
use Rattle.reg_set.specs.LastRecords.{last}
use Rattle.reg_set.specs.Records.{Records}

-- a soft delete at an offset covers the versions up to its own that are at smaller offsets
abbrev pub covers : ℕ → Value → ℕ → ℕ → Bool
covers at (values.Schema subject own id schema deleted) version offset = false
covers at (values.Config level) version offset = false
covers at (values.Mode mode) version offset = false
covers at (values.DeleteSubject subject greatest) version offset = nat_le version greatest && nat_lt offset at
covers at values.Noop version offset = false
covers at (values.IdMark id) version offset = false

-- whether the last record of the subject's DELETE_SUBJECT key covers what is at that version and offset
unfoldable pub is_soft_deleted : Records → List ℕ → ℕ → ℕ → Bool
is_soft_deleted rs subject version offset =
    option_map_or (λ r. option_map_or (λ value. covers r.offset value version offset) (value_of r) false)
    (last rs (keys.DeleteSubject subject)) false
