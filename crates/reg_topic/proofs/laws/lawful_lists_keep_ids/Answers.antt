use Rattle.reg_topic.proofs.Promises.{keep_ids, stay_open}
use Rattle.reg_topic.proofs.laws.lawful_lists_keep_ids.Goals as goal

pub returns-clause-open : goal.returns-clause-open
returns-clause-open c =
    let o = c.records_are_ordered.ensures in
    stay_open o.all o.apart c.batches_go_on.ensures c.steps_stay_open.ensures.stay

pub returns-clause-ids : goal.returns-clause-ids
returns-clause-ids c =
    let o = c.records_are_ordered.ensures in
    let taken = c.steps_keep_given_ids.ensures in
    keep_ids o.all o.apart c.batches_go_on.ensures c.steps_stay_open.ensures.stay taken.entries taken.kept
