use Rattle.std.proofs.Common.{◌≡◌, take}
use Rattle.reg_compaction.specs.Lacking.{greatest_named}
use Rattle.reg_compaction.proofs.lacking.greatest_named.Given as goal

abbrev pub invariant-loop-record : goal.invariant-loop-record
invariant-loop-record l = l.greatest ≡ greatest_named (take l.record-index l.records)
