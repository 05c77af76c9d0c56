use Rattle.std.proofs.Common.{◌≡◌, map}
use Rattle.std.specs.FinSet as set
use Rattle.reg_set.specs.LastRecords.{last_records}
use Rattle.reg_fold.proofs.registry.Registry.over_every_second.Given as goal

-- what was added so far adds nothing to all the records
abbrev pub invariant-loop-record : goal.invariant-loop-record
invariant-loop-record l =
    last_records (set.union l.registry (set.from_list (map (λ r. r.now) l.records))) ≡ last_records (set.from_list (map (λ r. r.now) l.records))
