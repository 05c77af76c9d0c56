use Rattle.reg_join.proofs.Outcomes.{dues}
use Rattle.reg_join.proofs.laws.due_batches_are_taken.Goals as goal

pub returns : goal.returns
returns g c = dues g.C.Chain.told g.C.Chain.answers
