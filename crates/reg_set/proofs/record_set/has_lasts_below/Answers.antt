use Rattle.std.proofs.Common.{◌∙◌}
use Rattle.reg_set.specs.Compaction.{is_kept_or_gone}
use Rattle.reg_set.proofs.Joined.{all-of_keys}
use Rattle.reg_set.proofs.record_set.has_lasts_below.Goals as goal

pub returns : goal.returns
returns c =
    c.are_kept_or_gone.ensures
    ∙ all-of_keys c.whole.inside.by_key c.whole.invariant (is_kept_or_gone c.args.floor c.args.part.now) c.args.whole.now c.whole.view_is
