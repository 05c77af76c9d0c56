use Rattle.std.proofs.Common.{◌≡◌, ℕ, length}
use Rattle.avro_resolve.specs.Worklist.{waits, IsOrderly}
use Rattle.avro_resolve.proofs.worklist.Worklist.take_up.Given as goal

-- the same numbers wait
abbrev pub invariant-words : goal.invariant-words
invariant-words l = record {
  waits : (k : ℕ) → waits l.self k ≡ waits l.initial.self k;
  met : l.self.met.words.items ≡ l.initial.self.met.words.items;
  orderly : IsOrderly l.self;
}

abbrev pub decreases-words : goal.decreases-words
decreases-words l = length l.self.places.items
