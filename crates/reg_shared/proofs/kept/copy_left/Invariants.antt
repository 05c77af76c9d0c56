use Rattle.std.proofs.Common.{◌≡◌, ◌++◌, ◌&&◌, not, drop}
use Rattle.std.specs.FinSet.{contains}
use Rattle.std.specs.List.{filter}
use Rattle.reg_shared.proofs.kept.copy_left.Given as goal

abbrev pub invariant-loop-record : goal.invariant-loop-record
invariant-loop-record l =
    l.left.items ++ filter (λ r. not (contains l.gone r) && not (contains l.registry r)) (drop l.record-index l.older)
    ≡ filter (λ r. not (contains l.gone r) && not (contains l.registry r)) l.older
