use Rattle.reg_world.proofs.Answers.{caught_up, nodes_catch_up, takers_catch_up}
use Rattle.reg_world.proofs.laws.caught_up_nodes_answer_as_the_log.Goals as goal

pub returns-clause-all : goal.returns-clause-all
returns-clause-all c = takers_catch_up c.lower_laws.ensures

pub returns-clause-answers : goal.returns-clause-answers
returns-clause-answers c = caught_up c.lower_laws.ensures

pub returns-clause-lasts : goal.returns-clause-lasts
returns-clause-lasts c = nodes_catch_up c.lower_laws.ensures
