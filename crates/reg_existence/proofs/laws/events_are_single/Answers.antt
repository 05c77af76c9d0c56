use Rattle.reg_existence.proofs.Singles.{events_are_single, lists_of_events_are_single}
use Rattle.reg_existence.proofs.laws.events_are_single.Goals as goal

pub returns-clause-events : goal.returns-clause-events
returns-clause-events c = events_are_single c.steps_are_single.ensures c.queries_have_one_answer.ensures

pub returns-clause-lists : goal.returns-clause-lists
returns-clause-lists c = lists_of_events_are_single c.steps_are_single.ensures c.queries_have_one_answer.ensures
