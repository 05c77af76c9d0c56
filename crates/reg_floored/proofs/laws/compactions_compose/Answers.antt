use Rattle.reg_floored.proofs.Compactions.{compose, itself_is}
use Rattle.reg_floored.proofs.laws.compactions_compose.Goals as goal

pub returns-clause-itself : goal.returns-clause-itself
returns-clause-itself c = itself_is c.last_is_greatest.ensures.greatest c.last_is_greatest.ensures.none

pub returns-clause-across : goal.returns-clause-across
returns-clause-across c = compose c.last_is_greatest.ensures.greatest c.last_is_greatest.ensures.none
