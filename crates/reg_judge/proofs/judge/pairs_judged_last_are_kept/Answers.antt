use Rattle.reg_judge.proofs.Last.{has_last}
use Rattle.reg_judge.proofs.judge.pairs_judged_last_are_kept.Goals as goal

pub returns : goal.returns
returns c = has_last
