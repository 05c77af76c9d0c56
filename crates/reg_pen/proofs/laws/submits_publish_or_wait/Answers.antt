use Rattle.reg_pen.proofs.Outcomes.{publish_or_wait}
use Rattle.reg_pen.proofs.laws.submits_publish_or_wait.Goals as goal

pub returns : goal.returns
returns g c = publish_or_wait _
