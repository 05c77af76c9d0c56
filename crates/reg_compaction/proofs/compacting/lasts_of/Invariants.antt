use Rattle.std.proofs.Common.{◌≡◌, take}
use Rattle.std.specs.FinSet.{from_list}
use Rattle.reg_set.specs.LastRecords.{last_records}
use Rattle.reg_compaction.proofs.compacting.lasts_of.Given as goal

abbrev pub invariant-loop-record : goal.invariant-loop-record
invariant-loop-record l = l.lasts ≡ last_records (from_list (take l.record-index l.records))
