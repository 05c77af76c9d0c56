use Rattle.reg_join.proofs.Outcomes.{outcomes}
use Rattle.reg_join.proofs.laws.outcomes_stand_in_the_chain.Goals as goal

pub returns : goal.returns
returns g c = outcomes g.C.Chain.told g.C.Chain.answers
