use Rattle.reg_fold.proofs.Found.{found_stand}
use Rattle.reg_fold.proofs.laws.found_entries_stand.Goals as goal

pub returns : goal.returns
returns c = found_stand
