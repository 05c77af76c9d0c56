use Rattle.reg_leader.proofs.Steps.{steps_meet_levels}
use Rattle.reg_leader.proofs.laws.steps_meet_levels.Goals as goal

pub returns : goal.returns
returns c = steps_meet_levels
