use Rattle.reg_processes.proofs.Alike.{answer_alike, give_alike, step_alike}
use Rattle.reg_processes.specs.Laws.{SameLogsGiveAlike}
use Rattle.reg_processes.proofs.laws.same_logs_give_alike.Goals as goal

pub returns-clause-alike : goal.returns-clause-alike
returns-clause-alike c =
    let e = c.giving_alike_is_an_equivalence.ensures in
    give_alike c.registries_are_of_the_chain.ensures.give e.back e.across

pub returns-clause-answers : goal.returns-clause-answers
returns-clause-answers c =
    let e = c.giving_alike_is_an_equivalence.ensures in
    let give : SameLogsGiveAlike =
    give_alike c.registries_are_of_the_chain.ensures.give e.back e.across in
    answer_alike give c.alike_answers_alike.ensures c.queries_have_one_answer.ensures

pub returns-clause-steps : goal.returns-clause-steps
returns-clause-steps c =
    let e = c.giving_alike_is_an_equivalence.ensures in
    let give : SameLogsGiveAlike =
    give_alike c.registries_are_of_the_chain.ensures.give e.back e.across in
    step_alike give c.alike_steps_alike.ensures
