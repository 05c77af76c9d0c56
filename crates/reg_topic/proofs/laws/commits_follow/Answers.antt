use Rattle.reg_topic.proofs.Gains.{follows-commit}
use Rattle.reg_topic.proofs.laws.commits_follow.Goals as goal

pub returns : goal.returns
returns c =
    let o = c.records_are_ordered.ensures in
    follows-commit o.all o.apart c.batches_go_on.ensures c.batches_end_by_the_limit.ensures
