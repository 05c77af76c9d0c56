use Rattle.reg_node.proofs.Lasts.{draws_fold}
use Rattle.reg_node.proofs.laws.draws_fold_to_last_records.Goals as goal

pub returns : goal.returns
returns c =
    let o = c.records_are_ordered.ensures in
    draws_fold o.all o.apart c.last_records_of_unions.ensures.insert c.rebasing_keeps_lasts.ensures.lasts
