use Rattle.reg_lookup.specs.Bodies.{number_data}
use Rattle.reg_lookup.proofs.ListTokens.{IsListed}
use Rattle.reg_lookup.proofs.bodies.versions_body.Given as goal

abbrev pub invariant-loop-entry : goal.invariant-loop-entry
invariant-loop-entry l = IsListed (λ e. number_data e.now.version) l.entries l.entry-index l.body
