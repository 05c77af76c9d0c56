use Rattle.std.proofs.Common.{◌≡◌, take, map}
use Rattle.reg_levels.proofs.judged.are_same.Given as goal

abbrev pub invariant-loop-place : goal.invariant-loop-place
invariant-loop-place l = take l.place l.kept ≡ take l.place (map (λ old. (old.0, old.1.now)) l.olds)
