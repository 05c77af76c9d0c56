use Rattle.reg_alike.proofs.Answers.{alike_answers_alike}
use Rattle.reg_alike.proofs.laws.alike_answers_alike.Goals as goal

pub returns : goal.returns
returns c = alike_answers_alike
