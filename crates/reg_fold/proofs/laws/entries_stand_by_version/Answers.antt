use Rattle.reg_fold.proofs.Rising.{stand_by_version}
use Rattle.reg_fold.proofs.laws.entries_stand_by_version.Goals as goal

pub returns : goal.returns
returns c = stand_by_version
