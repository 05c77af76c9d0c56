use Rattle.reg_fold.proofs.Standing.{none-no_opaque_last}
use Rattle.reg_fold.proofs.laws.none_is_no_opaque_last.Goals as goal

pub returns : goal.returns
returns c =
    let order = c.records_are_ordered.ensures in
    let enough = c.last_records_are_enough.ensures in
    none-no_opaque_last order.all order.apart c.last_is_greatest.ensures.greatest enough.last_of_last enough.least enough.last_records
