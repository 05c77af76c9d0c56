use Rattle.std.proofs.Common.{List, ◌++◌, ◌<◌, vec_len}
use Rattle.avro_resolve.specs.declared.trail.Hop.{Hop}
use Rattle.avro_resolve.specs.Search.{IsWayBack}
use Rattle.avro_resolve.proofs.search.Search.hops_to.Given as goal

-- the hops so far lead back to the place that is looked at
abbrev pub invariant-back : goal.invariant-back
invariant-back l =
    (l.at < vec_len l.self.entries)
    × ((rest : List Hop) → IsWayBack l.r.nodes l.w.nodes l.self.entries.items l.at rest
    → IsWayBack l.r.nodes l.w.nodes l.self.entries.items l.place (l.hops.items ++ rest))

abbrev pub decreases-back : goal.decreases-back
decreases-back l = l.at
