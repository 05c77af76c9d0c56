use Rattle.std.proofs.Common.{◌∙◌}
use Rattle.std.specs.FinSet.{contains}
use Rattle.reg_set.proofs.Joined.{all-of_keys}
use Rattle.reg_set.proofs.record_set.has_lasts_of.Goals as goal

pub returns : goal.returns
returns c =
    c.has_lasts_of_keys.ensures
    ∙ all-of_keys c.whole.inside.by_key c.whole.invariant (contains c.args.part.now) c.args.whole.now c.whole.view_is
