use Rattle.reg_leader.proofs.Steps.{batches_end_by_the_limit}
use Rattle.reg_leader.proofs.laws.batches_end_by_the_limit.Goals as goal

pub returns : goal.returns
returns c = batches_end_by_the_limit
