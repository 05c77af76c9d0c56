use Rattle.reg_processes.proofs.Ids.{ids_for_two, no_id_names_two}
use Rattle.reg_processes.proofs.laws.no_id_names_two_schemas.Goals as goal

pub returns-clause-among : goal.returns-clause-among
returns-clause-among c =
    let o = c.records_are_ordered.ensures in
    let given = c.steps_keep_given_ids.ensures in
    let lists = c.lists_are_joined.ensures in
    no_id_names_two o.all o.apart c.batches_go_on.ensures c.commits_follow.ensures c.steps_stay_open.ensures.stay given.entries given.kept
    lists.in_turn lists.lawful c.fronts_take_part.ensures c.same_logs_give_alike.ensures.alike

pub returns-clause-of_two : goal.returns-clause-of_two
returns-clause-of_two c =
    let o = c.records_are_ordered.ensures in
    let given = c.steps_keep_given_ids.ensures in
    let lists = c.lists_are_joined.ensures in
    ids_for_two o.all o.apart c.batches_go_on.ensures c.commits_follow.ensures c.steps_stay_open.ensures.stay given.entries given.kept
    lists.in_turn lists.lawful c.fronts_take_part.ensures c.same_logs_give_alike.ensures.alike
