use Rattle.reg_lookup.proofs.OneAnswer.{one_answer}
use Rattle.reg_lookup.proofs.laws.queries_have_one_answer.Goals as goal

pub returns : goal.returns
returns c = one_answer c.level_verdicts_are_single.ensures
