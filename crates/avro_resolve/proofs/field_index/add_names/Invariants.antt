use Rattle.std.proofs.Common.{◌+◌}
use Rattle.avro_resolve.specs.FieldIndex.{AreHolders}
use Rattle.avro_resolve.proofs.field_index.add_names.Given as goal

-- the field's own name and the aliases so far were added
abbrev pub invariant-loop-k : goal.invariant-loop-k
invariant-loop-k l = AreHolders l.«_fields» l.field (l.k + 1) l.holders
