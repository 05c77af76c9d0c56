use Rattle.reg_alike.proofs.Steps.{steps_alike}
use Rattle.reg_alike.proofs.laws.alike_steps_alike.Goals as goal

pub returns : goal.returns
returns c = steps_alike
