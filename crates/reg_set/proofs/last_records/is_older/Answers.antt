use Rattle.std.proofs.Common.{ap, ◌∙◌}
use Rattle.std.specs.Ordering.{is_lt, ordering_then}
use Rattle.reg_set.specs.RecordOrder.{age_cmp, value_cmp}
use Rattle.reg_set.proofs.last_records.is_older.Goals as goal

pub returns : goal.returns
unfolding age_cmp value_cmp
returns c = c.is_lt.ensures ∙ ap is_lt (c.then.ensures ∙ (λ i. ordering_then (c.cmp.ensures i) (c.cmp-2.ensures i)))
