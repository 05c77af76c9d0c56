use Rattle.reg_running.proofs.Acts.{added_more, compactions_are_acts, submits_are_acts}
use Rattle.reg_running.proofs.Pens.{calls_keep_pens}
use Rattle.reg_running.proofs.laws.pens_do_acts.Goals as goal

pub returns-clause-submits : goal.returns-clause-submits
returns-clause-submits g c = submits_are_acts g.K.Keep.keeps

pub returns-clause-compactions : goal.returns-clause-compactions
returns-clause-compactions g c = compactions_are_acts _

pub returns-clause-in_turn : goal.returns-clause-in_turn
returns-clause-in_turn g c = added_more

pub returns-clause-stays : goal.returns-clause-stays
returns-clause-stays g c = calls_keep_pens g.K.Keep.keeps
