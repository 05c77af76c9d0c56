use Rattle.std.proofs.Common.{◌≡◌, ◌++◌, not, drop}
use Rattle.std.specs.FinSet.{contains}
use Rattle.std.specs.List.{filter}
use Rattle.reg_shared.proofs.kept.copy_older.Given as goal

abbrev pub invariant-loop-record : goal.invariant-loop-record
invariant-loop-record l =
    l.found.items ++ filter (λ r. not (contains l.registry r)) (drop l.record-index l.records)
    ≡ filter (λ r. not (contains l.registry r)) l.records
