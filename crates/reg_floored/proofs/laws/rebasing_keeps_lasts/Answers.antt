use Rattle.reg_floored.proofs.Compactions.{last_records_of_rebased, rebasing_keeps_lasts}
use Rattle.reg_floored.proofs.laws.rebasing_keeps_lasts.Goals as goal

pub returns-clause-rebased : goal.returns-clause-rebased
returns-clause-rebased c =
    rebasing_keeps_lasts c.last_is_greatest.ensures.greatest c.last_is_greatest.ensures.none
    c.records_are_ordered.ensures.all c.records_are_ordered.ensures.apart

pub returns-clause-lasts : goal.returns-clause-lasts
returns-clause-lasts c =
    last_records_of_rebased c.last_is_greatest.ensures.greatest c.last_is_greatest.ensures.none
    c.records_are_ordered.ensures.all c.records_are_ordered.ensures.apart c.last_records_of_unions.ensures.last_records
