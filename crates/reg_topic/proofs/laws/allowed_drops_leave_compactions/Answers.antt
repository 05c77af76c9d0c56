use Rattle.reg_topic.proofs.Compactions.{drops_leave_compactions}
use Rattle.reg_topic.proofs.laws.allowed_drops_leave_compactions.Goals as goal

pub returns : goal.returns
returns c = drops_leave_compactions c.drops_leave_compactions.ensures
