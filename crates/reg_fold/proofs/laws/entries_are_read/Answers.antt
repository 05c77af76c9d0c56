use Rattle.reg_fold.proofs.Readable.{entries-read}
use Rattle.reg_fold.proofs.laws.entries_are_read.Goals as goal

pub returns : goal.returns
returns c = entries-read
