use Rattle.avro_resolve.specs.FieldIndex.{AreFoundUpto}
use Rattle.avro_resolve.proofs.field_index.found_unsorted.Given as goal

-- what is found for the writer's fields so far
abbrev pub invariant-loop-place : goal.invariant-loop-place
invariant-loop-place l = AreFoundUpto l.«_reader» l.writer l.place l.found.items
