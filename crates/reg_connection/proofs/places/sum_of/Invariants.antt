use Rattle.std.proofs.Common.{◌≡◌, ◌-◌, ◌^◌, min, take}
use Rattle.std.specs.List.{sum}
use Rattle.reg_connection.proofs.places.sum_of.Given as goal

-- the weights so far
abbrev pub invariant-loop-weight : goal.invariant-loop-weight
invariant-loop-weight l = l.all ≡ min (sum (take l.weight-index l.weights)) (2 ^ 64 - 1)
