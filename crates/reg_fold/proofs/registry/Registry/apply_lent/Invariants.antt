use Rattle.std.proofs.Common.{◌≡◌, take, map}
use Rattle.std.specs.FinSet as set
use Rattle.reg_set.specs.LastRecords.{last_records}
use Rattle.reg_fold.proofs.registry.Registry.apply_lent.Given as goal

abbrev pub invariant-loop-record : goal.invariant-loop-record
invariant-loop-record l = l.self ≡ last_records (set.union l.fn.self (set.from_list (map (λ r. r.now) (take l.record-index l.records))))
