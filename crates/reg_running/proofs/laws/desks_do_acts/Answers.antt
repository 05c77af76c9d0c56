use Rattle.reg_running.proofs.Desks.{desks_do_acts}
use Rattle.reg_running.proofs.laws.desks_do_acts.Goals as goal

pub returns : goal.returns
returns g c = desks_do_acts g.K.Keep.keeps
