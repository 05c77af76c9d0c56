use Rattle.std.proofs.Common.{◌≡◌, ◌<◌, ℕ, Contains, Some, slice_get}
use Rattle.avro_schema.specs.declared.node.NodeId.{NodeId}
use Rattle.avro_data.specs.Users.{HasUser}
use Rattle.avro_data.proofs.users.users_of.Given as goal

abbrev pub invariant-loop-of : goal.invariant-loop-of
invariant-loop-of l =
    (n : ℕ) (j i : NodeId) → n < l.of-index → slice_get l.given n ≡ Some j → HasUser l.users j i → Contains l.found.items i
