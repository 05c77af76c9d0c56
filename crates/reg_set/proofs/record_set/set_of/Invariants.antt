use Rattle.std.proofs.Common.{◌≡◌, take, map}
use Rattle.std.specs.FinSet as set
use Rattle.reg_set.proofs.record_set.set_of.Given as goal

abbrev pub invariant-loop-record : goal.invariant-loop-record
invariant-loop-record l = l.found ≡ set.from_list (map (λ r. r.now) (take l.record-index l.record-items))
