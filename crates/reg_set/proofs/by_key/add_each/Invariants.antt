use Rattle.std.proofs.Common.{◌≡◌, take}
use Rattle.std.specs.FinSet.{from_list, union}
use Rattle.reg_set.proofs.by_key.add_each.Given as goal

abbrev pub invariant-loop-record : goal.invariant-loop-record
invariant-loop-record l = l.into ≡ union l.fn.into (from_list (take l.record-index l.records))
