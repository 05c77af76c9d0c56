-- The nodes so far have good defaults alone.
use Rattle.std.proofs.Common.{◌≡◌, drop, flat_map}
use Rattle.avro_schema.specs.Defaults.{bad_defaults}
use Rattle.avro_schema.specs.Sound.{fields_of_node}
use Rattle.avro_schema.proofs.DefaultLemmas.{bad_in}
use Rattle.avro_schema.proofs.schema.Schema.check_defaults.Given as goal

abbrev pub invariant-loop-node : goal.invariant-loop-node
invariant-loop-node l = bad_defaults l.nodes ≡ bad_in l.nodes (flat_map fields_of_node (drop l.node-index l.nodes))
