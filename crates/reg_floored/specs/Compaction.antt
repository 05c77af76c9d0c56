-- What a compaction keeps of a set with a floor.
use Rattle.std.specs.Prelude.{◌≤◌, is_some}
use Rattle.std.specs.FinSet.{retain}
use Rattle.reg_set.specs.Compaction.{IsCompactionBelow}
use Rattle.reg_set.specs.LastRecords.{last_records}
use Rattle.reg_set.specs.Records.{Records}
use Rattle.reg_floored.specs.Floored.{Floored}
pub use Rattle.reg_set.specs.Compaction.{KeepsLasts}

-- a compaction of the whole below its own floor, which is no lower than that of the whole
pub record IsCompactionOf (compaction whole : Floored) : Type 0 where
  pub floor_rises : whole.floor ≤ compaction.floor
  pub is_below_floor : IsCompactionBelow compaction.floor compaction.records whole.records

-- the last records that have a value
abbrev pub standing : Records → Records
standing s = retain (last_records s) (λ r. is_some r.value)
