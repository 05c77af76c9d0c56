use Rattle.std.proofs.Common.{◌∙◌}
use Rattle.reg_fold.proofs.registry.Registry.over.Goals as goal

pub returns : goal.returns
returns c = c.in_ok-apply_lent.ensures ∙ c.in_ok-registry.ensures
