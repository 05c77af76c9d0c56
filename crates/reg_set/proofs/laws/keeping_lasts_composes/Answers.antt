use Rattle.reg_set.proofs.KeptLasts.{keeps_own_lasts, keeping_lasts_composes, drops_keep_lasts}
use Rattle.reg_set.proofs.laws.keeping_lasts_composes.Goals as goal

pub returns-clause-itself : goal.returns-clause-itself
returns-clause-itself c = keeps_own_lasts

pub returns-clause-across : goal.returns-clause-across
returns-clause-across c = keeping_lasts_composes

pub returns-clause-drops : goal.returns-clause-drops
returns-clause-drops c = drops_keep_lasts
