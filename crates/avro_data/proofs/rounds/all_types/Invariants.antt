use Rattle.std.proofs.Common.{◌<◌, Contains}
use Rattle.avro_schema.specs.declared.node.NodeId.{NodeId}
use Rattle.avro_data.proofs.rounds.all_types.Given as goal

abbrev pub invariant-loop-index : goal.invariant-loop-index
invariant-loop-index l = (i : NodeId) → i.index < l.index → Contains l.ids.items i
