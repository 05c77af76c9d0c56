use Rattle.reg_lookup.specs.Bodies.{place_data}
use Rattle.reg_lookup.proofs.ListTokens.{IsListed}
use Rattle.reg_lookup.proofs.bodies.places_body.Given as goal

abbrev pub invariant-loop-entry : goal.invariant-loop-entry
invariant-loop-entry l = IsListed (λ e. place_data e.now) l.entries l.entry-index l.body
