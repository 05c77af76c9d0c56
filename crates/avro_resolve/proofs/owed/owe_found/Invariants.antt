use Rattle.std.proofs.Common.{◌<◌, ◌≤◌, length}
use Rattle.std.specs.List.{AllWithin}
use Rattle.avro_resolve.proofs.Owing.{AreOwed}
use Rattle.avro_resolve.proofs.owed.owe_found.Given as goal

-- the fields before the next were added, and of what was found so far nothing is of a further one
abbrev pub invariant-loop-x : goal.invariant-loop-x
invariant-loop-x l = record {
  owed : AreOwed l.writer l.reader l.next l.owed.items;
  earlier : AllWithin (λ y. y.holder.field < l.next) l.found 0 l.x-index;
  within : l.next ≤ length l.reader;
}
