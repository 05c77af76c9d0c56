use Rattle.std.proofs.Common.{◌≡◌, take, map}
use Rattle.std.specs.FinSet.{from_list}
use Rattle.reg_node.proofs.take.set_of.Given as goal

abbrev pub invariant-loop-record : goal.invariant-loop-record
invariant-loop-record l = l.found ≡ from_list (map (λ r. r.now) (take l.record-index l.record-items))
