use Rattle.reg_existence.proofs.Steps.{answers_exist}
use Rattle.reg_existence.proofs.laws.answers_exist.Goals as goal

pub returns : goal.returns
returns c = answers_exist c.verdicts_exist.ensures.levels
