use Rattle.reg_fold.proofs.Steps.{entries_are_of_lasts}
use Rattle.reg_fold.proofs.index.entries_are_of_lasts.Goals as goal

pub returns : goal.returns
returns c =
    let order = c.records_are_ordered.ensures in
    entries_are_of_lasts order.all order.apart c.last_is_greatest.ensures.greatest c.args.lasts.now c.is_compact.ensures
