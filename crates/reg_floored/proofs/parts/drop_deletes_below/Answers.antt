use Rattle.std.proofs.Common.{not, rules}
use Rattle.std.proofs.lemmas.Fn.{filter_same}
use Rattle.reg_set.specs.Compaction.{deletes_below}
use Rattle.reg_floored.proofs.parts.drop_deletes_below.Goals as goal

pub returns : goal.returns
returns c =
    filter_same _ (λ r. not (deletes_below c.args.floor r)) _ (λ x b q h. (search rules, search rules)) _ _ c.retain.ensures.filtered
