use Rattle.std.proofs.Common.{drop}
use Rattle.avro_resolve.proofs.Hops.{IsOnTrail}
use Rattle.avro_resolve.proofs.trail.Trail.check.Given as goal

abbrev pub invariant-loop-hop : goal.invariant-loop-hop
invariant-loop-hop l = IsOnTrail l.r.nodes l.w.nodes l.self.hops l.pair (drop l.hop-index l.hop-items)
