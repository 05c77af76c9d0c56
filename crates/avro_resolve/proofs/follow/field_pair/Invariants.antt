use Rattle.std.proofs.Common.{◌≡◌, drop, filter_map}
use Rattle.avro_resolve.specs.Follow.{pair_by}
use Rattle.avro_resolve.specs.declared.trail.Hop.TheVariants as hop
use Rattle.avro_resolve.proofs.Rows.{to_partner}
use Rattle.avro_resolve.proofs.follow.field_pair.Given as goal

-- the fields so far are not of the name, or have no partner
abbrev pub invariant-loop-f : goal.invariant-loop-f
invariant-loop-f l =
    pair_by (filter_map (to_partner l.writer) l.fn.reader) (hop.Field l.name)
    ≡ pair_by (filter_map (to_partner l.writer) (drop l.f-index l.reader)) (hop.Field l.name)
