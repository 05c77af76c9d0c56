use Rattle.avro_resolve.proofs.Owing.{AreOwed}
use Rattle.avro_resolve.proofs.owed.owe_fields.Given as goal

-- the fields so far were added
abbrev pub invariant-loop-f : goal.invariant-loop-f
invariant-loop-f l = AreOwed l.writer l.reader l.f-index l.owed.items
