use Rattle.reg_leader.proofs.Refused.{refusals_write_nothing}
use Rattle.reg_leader.proofs.laws.refusals_write_nothing.Goals as goal

pub returns : goal.returns
returns c = refusals_write_nothing
