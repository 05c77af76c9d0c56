-- What compacting to a floor, rebasing and merging leave.
use Rattle.std.specs.Prelude.{ℕ, List, Bool, ◌&&◌, ◌||◌, not, nat_le, nat_lt}
use Rattle.std.specs.FinSet.{contains, difference, from_list, retain, union}
use Rattle.std.specs.List.{list_all}
use Rattle.reg_records.specs.declared.record.Record.{Record}
use Rattle.reg_set.specs.Compaction.{deletes_below, is_gone}
use Rattle.reg_set.specs.LastRecords.{is_last, last_records}
use Rattle.reg_set.specs.Records.{Records}
use Rattle.reg_floored.specs.Floored.{Floored}

-- the last records without those that delete their key below the floor
abbrev pub compacted_to : ℕ → Records → Records
compacted_to floor s = retain (last_records s) (λ r. not (deletes_below floor r))

abbrev pub below : ℕ → Records → Records
below floor s = retain s (λ r. nat_lt r.offset floor)

abbrev pub from_floor : ℕ → Records → Records
from_floor floor s = retain s (λ r. nat_le floor r.offset)

-- own records from the other's floor on, and the other's below it
abbrev pub rebased : Records → Floored → Records
rebased own other = union (from_floor other.floor own) (below other.floor other.records)

-- the records of both, at the floor of the first
abbrev pub merged : Floored → Floored → Floored
merged s t = record { records = union s.records t.records; floor = s.floor }

abbrev pub without : Records → List Record → Records
without kept dropped = difference kept (from_list dropped)

-- whether the records may leave a set that is to have that floor: each is kept, and the key of each last one is gone then
abbrev pub may_leave : ℕ → Records → List Record → Bool
may_leave floor kept dropped = list_all (λ r. contains kept r && (not (is_last kept r) || is_gone floor (without kept dropped) r)) dropped
