use Rattle.reg_levels.proofs.FirstClash.{one_verdict}
use Rattle.reg_levels.proofs.checking.level_verdicts_are_single.Goals as goal

pub returns : goal.returns
returns c = one_verdict c.schemas_have_one_verdict.ensures
