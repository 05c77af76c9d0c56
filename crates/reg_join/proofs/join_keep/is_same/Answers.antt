use Rattle.reg_join.proofs.Same.{is_same}
use Rattle.reg_join.proofs.join_keep.is_same.Goals as goal

pub returns : goal.returns
returns c = is_same c.args.batch.now c.args.told.now c.eq.result c.eq.ensures
