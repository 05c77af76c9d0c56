use Rattle.std.proofs.Common.{◌≡◌, take}
use Rattle.reg_compaction.specs.Marked.{dropped_offset}
use Rattle.reg_compaction.proofs.marking.dropped_offset.Given as goal

abbrev pub invariant-loop-record : goal.invariant-loop-record
invariant-loop-record l = l.found ≡ dropped_offset l.kept (take l.record-index l.records)
