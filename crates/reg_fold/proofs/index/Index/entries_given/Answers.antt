use Rattle.reg_fold.proofs.OfLasts.{are_of_lasts}
use Rattle.reg_fold.proofs.index.Index.entries_given.Goals as goal

pub returns-clause-given : goal.returns-clause-given
returns-clause-given c = are_of_lasts c.last_is_greatest.ensures.greatest c.args.self.now.last c.entries_are_of_lasts.ensures
