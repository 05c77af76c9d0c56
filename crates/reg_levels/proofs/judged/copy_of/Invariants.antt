use Rattle.std.proofs.Common.{◌≡◌, take, map}
use Rattle.reg_levels.proofs.judged.copy_of.Given as goal

abbrev pub invariant-loop-old : goal.invariant-loop-old
invariant-loop-old l = l.copy.items ≡ map (λ old. (old.0, old.1.now)) (take l.old-index l.olds)
