use Rattle.reg_leader.proofs.Steps.{steps_are_single}
use Rattle.reg_leader.proofs.laws.steps_are_single.Goals as goal

pub returns : goal.returns
returns c = steps_are_single c.level_verdicts_are_single.ensures
