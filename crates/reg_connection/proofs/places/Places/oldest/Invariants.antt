use Rattle.reg_connection.specs.Places.{OldestOf}
use Rattle.reg_connection.proofs.places.Places.oldest.Given as goal

-- the oldest of those so far
abbrev pub invariant-loop-at : goal.invariant-loop-at
invariant-loop-at g l = OldestOf l.at l.by l.self.places l.oldest
