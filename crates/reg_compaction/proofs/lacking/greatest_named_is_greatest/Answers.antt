use Rattle.reg_compaction.proofs.Greatest.{greatest_named_is_greatest}
use Rattle.reg_compaction.proofs.lacking.greatest_named_is_greatest.Goals as goal

pub returns : goal.returns
returns c = greatest_named_is_greatest
