use Rattle.serde_json.specs.Data.{string}
use Rattle.reg_lookup.proofs.ListTokens.{IsListed}
use Rattle.reg_lookup.proofs.bodies.subjects_body.Given as goal

abbrev pub invariant-loop-subject : goal.invariant-loop-subject
invariant-loop-subject l = IsListed (λ s. string s.now) l.subjects l.subject-index l.body
