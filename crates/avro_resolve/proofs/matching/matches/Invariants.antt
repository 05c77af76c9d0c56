use Rattle.avro_resolve.proofs.MatchLaws.{IsInward}
use Rattle.avro_resolve.proofs.matching.matches.Given as goal

-- what is left to look through decides
abbrev pub invariant-inward : goal.invariant-inward
invariant-inward l = IsInward l.r.nodes l.w.nodes l.fn.i l.fn.j l.i l.j l.left

abbrev pub decreases-inward : goal.decreases-inward
decreases-inward l = l.left
