use Rattle.reg_floored.proofs.Compactions.{compactions_unite, later_records_may_join}
use Rattle.reg_floored.proofs.laws.compactions_unite.Goals as goal

pub returns-clause-union : goal.returns-clause-union
returns-clause-union c =
    compactions_unite c.last_is_greatest.ensures.greatest c.last_is_greatest.ensures.none
    c.records_are_ordered.ensures.all c.records_are_ordered.ensures.apart

pub returns-clause-later : goal.returns-clause-later
returns-clause-later c =
    later_records_may_join c.last_is_greatest.ensures.greatest c.last_is_greatest.ensures.none
    c.records_are_ordered.ensures.all c.records_are_ordered.ensures.apart
