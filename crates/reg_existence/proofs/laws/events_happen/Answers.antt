use Rattle.reg_existence.proofs.Events.{events_happen, lists_of_events_run, nodes_answer, worlds_exist}
use Rattle.reg_existence.proofs.laws.events_happen.Goals as goal

pub returns-clause-events : goal.returns-clause-events
returns-clause-events c = events_happen c.steps_exist.ensures c.answers_exist.ensures

pub returns-clause-nodes : goal.returns-clause-nodes
returns-clause-nodes c = nodes_answer c.steps_exist.ensures c.answers_exist.ensures

pub returns-clause-lists : goal.returns-clause-lists
returns-clause-lists c = lists_of_events_run c.steps_exist.ensures c.answers_exist.ensures

pub returns-clause-worlds : goal.returns-clause-worlds
returns-clause-worlds c = worlds_exist c.steps_exist.ensures c.answers_exist.ensures
