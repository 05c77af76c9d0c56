use Rattle.reg_existence.proofs.Steps.{steps_exist}
use Rattle.reg_existence.proofs.laws.steps_exist.Goals as goal

pub returns : goal.returns
returns c = steps_exist c.reports_exist.ensures
