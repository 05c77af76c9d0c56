use Rattle.std.proofs.Common.{◌≡◌, map, take}
use Rattle.avro_resolve.specs.Owed.{pair_with}
use Rattle.avro_resolve.proofs.owed.owe_branches.Given as goal

-- the branches so far were added
abbrev pub invariant-loop-b : goal.invariant-loop-b
invariant-loop-b l = l.owed.items ≡ map (pair_with l.i) (take l.b-index l.branches)
