use Rattle.reg_processes.proofs.Alike.{logs_compact}
use Rattle.reg_processes.proofs.laws.logs_are_compactions_of_the_chain.Goals as goal

pub returns : goal.returns
returns c =
    let o = c.records_are_ordered.ensures in
    logs_compact o.all o.apart c.batches_go_on.ensures c.commits_follow.ensures c.compactions_unite.ensures.later
    c.log_is_what_was_published.ensures
