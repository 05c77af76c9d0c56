-- Private: the pairs that a pair owes.
use Rattle.std.specs.Prelude.{List, map}
use Rattle.avro_schema.specs.declared.node.NodeId.{NodeId}
use Rattle.avro_resolve.specs.declared.obligations.Pair.{Pair}
use Rattle.avro_resolve.specs.declared.obligations.Obligation.{Obligation}

abbrev pub pairs_of : List Obligation → List Pair
pairs_of os = map (λ o. o.pair) os

abbrev pub pair_with : NodeId → NodeId → Pair
pair_with i j = record { reader = i; writer = j }
