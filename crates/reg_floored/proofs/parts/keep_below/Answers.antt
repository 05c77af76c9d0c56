use Rattle.std.proofs.Common.{nat_lt, rules}
use Rattle.std.proofs.lemmas.Fn.{filter_same}
use Rattle.reg_floored.proofs.parts.keep_below.Goals as goal

pub returns : goal.returns
returns c = filter_same _ (λ r. nat_lt r.offset c.args.floor) _ (λ x b q h. (search rules, search rules)) _ _ c.retain.ensures.filtered
