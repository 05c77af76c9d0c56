use Rattle.reg_existence.proofs.CatchingUp.{nodes_may_catch_up, rebased_nodes_may_catch_up}
use Rattle.reg_existence.proofs.laws.nodes_may_catch_up.Goals as goal

pub returns-clause-at_floor : goal.returns-clause-at_floor
returns-clause-at_floor c =
    let order = c.records_are_ordered.ensures in
    nodes_may_catch_up order.all order.apart c.caught_up_nodes_answer_as_the_log.ensures.all

pub returns-clause-rebased : goal.returns-clause-rebased
returns-clause-rebased c =
    let order = c.records_are_ordered.ensures in
    rebased_nodes_may_catch_up order.all order.apart c.caught_up_nodes_answer_as_the_log.ensures.all
