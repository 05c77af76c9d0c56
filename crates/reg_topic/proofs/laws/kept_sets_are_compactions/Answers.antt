use Rattle.reg_topic.proofs.Topics.{grows, grows_over_lists, kept-items}
use Rattle.reg_topic.proofs.laws.kept_sets_are_compactions.Goals as goal

pub returns-clause-kept : goal.returns-clause-kept
returns-clause-kept c =
    let o = c.records_are_ordered.ensures in
    kept-items o.all o.apart c.compactions_compose.ensures.across
    c.compactions_unite.ensures.later c.allowed_drops_leave_compactions.ensures

pub returns-clause-grows : goal.returns-clause-grows
returns-clause-grows c = grows c.records_are_ordered.ensures.all

pub returns-clause-over_lists : goal.returns-clause-over_lists
returns-clause-over_lists c = grows_over_lists c.records_are_ordered.ensures.all
