use Rattle.reg_world.proofs.Answers.{answers_are_of_the_set, same_answers}
use Rattle.reg_world.proofs.laws.nodes_answer_alike.Goals as goal

pub returns-clause-of_the_set : goal.returns-clause-of_the_set
returns-clause-of_the_set c = answers_are_of_the_set c.lower_laws.ensures

pub returns-clause-alike : goal.returns-clause-alike
returns-clause-alike c = same_answers c.lower_laws.ensures c.queries_have_one_answer.ensures
