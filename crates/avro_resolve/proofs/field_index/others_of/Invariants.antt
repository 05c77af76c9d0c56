use Rattle.std.proofs.Common.{◌≡◌, ◌<◌, ℕ, All, Some, true, is_some, slice_get}
use Rattle.avro_schema.specs.declared.node.Field.{Field}
use Rattle.avro_resolve.specs.FieldIndex.{IsAfter, IsAbsent}
use Rattle.avro_resolve.proofs.field_index.others_of.Given as goal

-- the fields so far have a default, but for those
abbrev pub invariant-loop-k : goal.invariant-loop-k
invariant-loop-k l = record {
  after : All (IsAfter l.fields) l.others.items;
  whole : (n : ℕ) (f : Field) → slice_get l.fields n ≡ Some f → n < l.k → IsAbsent n l.others.items → is_some f.default ≡ true;
}
