use Rattle.std.proofs.Common.{take}
use Rattle.std.specs.FinSet.{from_list}
use Rattle.reg_floored.proofs.Left.{HasLeft}
use Rattle.reg_floored.proofs.dropping.without.Given as goal

abbrev pub invariant-loop-record : goal.invariant-loop-record
invariant-loop-record l = HasLeft (from_list l.dropped) (take l.record-index l.record-items) l.left
