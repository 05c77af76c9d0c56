use Rattle.std.proofs.Common.{◌≡◌, replicate}
use Rattle.reg_connection.specs.declared.places.Place.TheVariants as places
use Rattle.reg_connection.proofs.places.Places.new.Given as goal

-- the places so far are free
abbrev pub invariant-loop : goal.invariant-loop
invariant-loop g l = record {
  places : l.made.items ≡ replicate l.counter places.Free;
  weights : l.weights.items ≡ replicate l.counter 0;
}
