use Rattle.std.proofs.Common.{◌≡◌, ◌++◌, drop}
use Rattle.reg_shared.specs.Kept.{lasts_at}
use Rattle.reg_shared.proofs.kept.copy_lasts.Given as goal

abbrev pub invariant-loop-record : goal.invariant-loop-record
invariant-loop-record l = l.found.items ++ lasts_at l.registry (drop l.record-index l.batch) ≡ lasts_at l.registry l.batch
