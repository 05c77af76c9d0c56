use Rattle.reg_rules.proofs.Verdicts.{live_are_read}
use Rattle.reg_rules.proofs.judging.live_versions_are_read.Goals as goal

pub returns : goal.returns
returns c = live_are_read c.entries_are_read.ensures
