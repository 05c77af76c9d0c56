use Rattle.std.proofs.Common.{ap, ◌∙◌}
use Rattle.reg_set.specs.LastRecords.{last_records}
use Rattle.reg_set.proofs.record_set.RecordSet.lasts.Goals as goal

pub returns : goal.returns
returns c = c.in_ok-found.ensures ∙ ap last_records c.self.view_is
