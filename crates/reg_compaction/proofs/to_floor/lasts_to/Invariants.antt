use Rattle.std.proofs.Common.{take}
use Rattle.reg_compaction.proofs.Drops.{AreDropped}
use Rattle.reg_compaction.proofs.to_floor.lasts_to.Given as goal

abbrev pub invariant-loop-record : goal.invariant-loop-record
invariant-loop-record l = AreDropped l.floor (take l.record-index l.records) l.initial.lasts l.lasts
