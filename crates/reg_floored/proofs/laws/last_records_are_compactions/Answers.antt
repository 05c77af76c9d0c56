use Rattle.reg_floored.proofs.Compactions.{compacted_to_floor}
use Rattle.reg_floored.proofs.laws.last_records_are_compactions.Goals as goal

pub returns-clause-to_floor : goal.returns-clause-to_floor
returns-clause-to_floor c =
    compacted_to_floor c.last_is_greatest.ensures.greatest c.last_is_greatest.ensures.none
    c.records_are_ordered.ensures.all c.records_are_ordered.ensures.apart
