use Rattle.reg_fold.proofs.Standing.{entries-in_limits}
use Rattle.reg_fold.proofs.laws.entries_are_in_limits.Goals as goal

pub returns : goal.returns
returns c = entries-in_limits c.values_are_of_keys.ensures
