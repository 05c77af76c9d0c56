use Rattle.std.proofs.Common.{length}
use Rattle.reg_tail.specs.Gathered.{Gathers}
use Rattle.reg_tail.proofs.gathered.Gathered.take_lines.Given as goal

-- what was taken so far
abbrev pub invariant-loop-gathered : goal.invariant-loop-gathered
invariant-loop-gathered l = Gathers l.fn.piece l.rest l.fn.self l.gathered

abbrev pub decreases-loop-gathered : goal.decreases-loop-gathered
decreases-loop-gathered l = length l.rest
