use Rattle.reg_view.proofs.Alike.{judges_alike}
use Rattle.reg_view.proofs.laws.alike_judges_alike.Goals as goal

pub returns : goal.returns
returns c = judges_alike
