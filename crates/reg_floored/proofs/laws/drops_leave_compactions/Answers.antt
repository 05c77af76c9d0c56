use Rattle.reg_floored.proofs.Drops.{drops_leave_compactions}
use Rattle.reg_floored.proofs.laws.drops_leave_compactions.Goals as goal

pub returns : goal.returns
returns c =
    drops_leave_compactions c.last_is_greatest.ensures.greatest c.last_is_greatest.ensures.none
    c.records_are_ordered.ensures.all c.records_are_ordered.ensures.apart
