use Rattle.reg_topic.proofs.Gains.{log_is_published}
use Rattle.reg_topic.proofs.laws.log_is_what_was_published.Goals as goal

pub returns : goal.returns
returns c =
    let o = c.records_are_ordered.ensures in
    log_is_published o.all o.apart c.batches_go_on.ensures c.batches_end_by_the_limit.ensures
