use Rattle.std.proofs.Common.{◌≡◌, ◌<◌, length, Some, slice_get}
use Rattle.avro_schema.specs.declared.node.NodeId.{NodeId}
use Rattle.avro_schema.specs.declared.node.Node.{Node}
use Rattle.avro_data.specs.Users.{awaited, IsUserOf}
use Rattle.avro_data.proofs.users.users.Given as goal

abbrev pub invariant-loop-index : goal.invariant-loop-index
invariant-loop-index l = record {
  size : length l.users.items ≡ length l.schema.nodes;
  each : (i : NodeId) (n : Node) → i.index < l.index → slice_get l.schema.nodes i.index ≡ Some n → IsUserOf l.users.items i (awaited n);
}
