use Rattle.reg_connection.specs.Places.{HeaviestOf}
use Rattle.reg_connection.proofs.places.Places.heaviest.Given as goal

-- the heaviest of those so far
abbrev pub invariant-loop-at : goal.invariant-loop-at
invariant-loop-at g l = HeaviestOf l.at l.self.places l.heaviest
