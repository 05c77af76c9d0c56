use Rattle.std.proofs.Common.{rules}
use Rattle.std.proofs.lemmas.Fn.{filter_same}
use Rattle.std.specs.FinSet.{contains}
use Rattle.reg_shared.proofs.kept.keep_lasts.Goals as goal

pub returns : goal.returns
returns c = filter_same _ (contains c.args.registry.now) _ (λ x b q h. (search rules, search rules)) _ _ c.retain.ensures.filtered
