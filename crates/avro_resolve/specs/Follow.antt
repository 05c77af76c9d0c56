-- Private: where a hop leads.
use Rattle.std.specs.Prelude.{List, Bool, true, false, ◌==◌, Option, option_map, find, bytes_eq}
use Rattle.avro_resolve.specs.declared.trail.Hop.{Hop}
use Rattle.avro_resolve.specs.declared.trail.Hop.TheVariants as hop
use Rattle.avro_resolve.specs.declared.obligations.Pair.{Pair}
use Rattle.avro_resolve.specs.declared.obligations.Obligation.{Obligation}

abbrev pub same_hop : Hop → Hop → Bool
same_hop (hop.Field a) (hop.Field b) = bytes_eq a b
same_hop hop.Items hop.Items = true
same_hop hop.Values hop.Values = true
same_hop (hop.Writer a) (hop.Writer b) = a == b
same_hop (hop.Reader a) (hop.Reader b) = a == b
same_hop _ _ = false

-- the obligation that a hop names, if there is one
abbrev pub owed_by : List Obligation → Hop → Option Obligation
owed_by os h = find (λ o. same_hop h o.hop) os

-- the pair that a hop leads to
abbrev pub pair_by : List Obligation → Hop → Option Pair
pair_by os h = option_map (λ o. o.pair) (owed_by os h)
