use Rattle.std.proofs.Common.{◌≡◌, ◌<◌, ℕ, length, Some, slice_get}
use Rattle.avro_schema.specs.declared.node.NodeId.{NodeId}
use Rattle.avro_schema.specs.declared.node.Field.{Field}
use Rattle.avro_data.specs.Users.{HasUser, AreGrown}
use Rattle.avro_data.proofs.users.add_uses.Given as goal

abbrev pub invariant-loop-field : goal.invariant-loop-field
invariant-loop-field l = record {
  grown : AreGrown l.initial.users.items l.users.items;
  size : length l.users.items ≡ length l.initial.users.items;
  added : (n : ℕ) (f : Field) → n < l.field-index → slice_get l.field-items n ≡ Some f
      → f.node.index < length l.users.items → HasUser l.users.items f.node l.user;
}

abbrev pub invariant-loop-branch : goal.invariant-loop-branch
invariant-loop-branch l = record {
  grown : AreGrown l.initial.users.items l.users.items;
  size : length l.users.items ≡ length l.initial.users.items;
  added : (n : ℕ) (j : NodeId) → n < l.branch-index → slice_get l.branch-items n ≡ Some j
      → j.index < length l.users.items → HasUser l.users.items j l.user;
}
