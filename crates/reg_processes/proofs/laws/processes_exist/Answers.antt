use Rattle.reg_processes.proofs.Existence.{kept_sets_begin, lists_take_part}
use Rattle.reg_processes.proofs.laws.processes_exist.Goals as goal

pub returns-clause-lists : goal.returns-clause-lists
returns-clause-lists c =
    let o = c.records_are_ordered.ensures in
    lists_take_part o.all o.apart c.compactions_compose.ensures.itself

pub returns-clause-kept : goal.returns-clause-kept
returns-clause-kept c =
    let o = c.records_are_ordered.ensures in
    let compose = c.compactions_compose.ensures in
    let floors = c.floors_stay_below.ensures in
    kept_sets_begin o.all o.apart compose.itself c.batches_go_on.ensures c.commits_follow.ensures c.steps_stay_open.ensures.stay
    compose.across c.compactions_give_alike.ensures floors.below floors.rise c.kept_sets_are_compactions.ensures.kept
    c.logs_are_compactions_of_the_chain.ensures
