use Rattle.std.proofs.Common.{◌≡◌, ℕ, ◌<◌, ◌%◌, length, get_or}
use Rattle.named_list.specs.Index.{Place}
use Rattle.named_list.proofs.slots.slots_of.Given as goal

-- the slots of the hashes so far are not empty
abbrev pub invariant-loop-entry : goal.invariant-loop-entry
invariant-loop-entry l = record {
  long : length l.slots.items ≡ l.count;
  some : (k : ℕ) (d : Place) → k < l.entry-index → 0 < get_or l.slots.items ((get_or l.by_hash k d).0 % l.count) 0;
}
