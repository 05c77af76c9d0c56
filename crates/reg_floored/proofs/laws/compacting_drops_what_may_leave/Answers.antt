use Rattle.reg_floored.proofs.Drops.{compacting_drops}
use Rattle.reg_floored.proofs.laws.compacting_drops_what_may_leave.Goals as goal

pub returns : goal.returns
returns c =
    compacting_drops c.last_is_greatest.ensures.greatest c.last_is_greatest.ensures.none c.records_are_ordered.ensures.all
    c.records_are_ordered.ensures.apart c.last_records_are_compactions.ensures.to_floor
