use Rattle.std.proofs.Common.{◌≡◌, ◌<◌, ℕ, Contains, Some, slice_get}
use Rattle.avro_schema.specs.declared.node.NodeId.{NodeId}
use Rattle.avro_data.proofs.users.add_all.Given as goal

abbrev pub invariant-loop-id : goal.invariant-loop-id
invariant-loop-id l = record {
  kept : (i : NodeId) → Contains l.initial.found.items i → Contains l.found.items i;
  added : (n : ℕ) (i : NodeId) → n < l.id-index → slice_get l.ids n ≡ Some i → Contains l.found.items i;
}
