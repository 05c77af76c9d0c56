use Rattle.reg_join.proofs.Nobodys.{lawful_logs_stop_nobody}
use Rattle.reg_join.proofs.laws.lawful_logs_stop_nobody.Goals as goal

pub returns : goal.returns
returns g c = lawful_logs_stop_nobody g.C.Chain.told
