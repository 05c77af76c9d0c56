use Rattle.avro_resolve.specs.FieldIndex.{AreHolders}
use Rattle.avro_resolve.proofs.field_index.holders_of.Given as goal

-- the names of the fields so far were added
abbrev pub invariant-loop-k : goal.invariant-loop-k
invariant-loop-k l = AreHolders l.fields l.k 0 l.holders
