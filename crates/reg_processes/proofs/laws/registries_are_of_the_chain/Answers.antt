use Rattle.reg_processes.proofs.Alike.{answer_whole, gives_whole, step_whole}
use Rattle.reg_processes.proofs.laws.registries_are_of_the_chain.Goals as goal

pub returns-clause-give : goal.returns-clause-give
returns-clause-give c = gives_whole c.logs_are_compactions_of_the_chain.ensures c.compactions_give_alike.ensures

pub returns-clause-answer : goal.returns-clause-answer
returns-clause-answer c =
    answer_whole (gives_whole c.logs_are_compactions_of_the_chain.ensures c.compactions_give_alike.ensures) c.alike_answers_alike.ensures

pub returns-clause-step : goal.returns-clause-step
returns-clause-step c =
    step_whole (gives_whole c.logs_are_compactions_of_the_chain.ensures c.compactions_give_alike.ensures) c.alike_steps_alike.ensures
