use Rattle.std.proofs.Common.{nat_le, rules}
use Rattle.std.proofs.lemmas.Fn.{filter_same}
use Rattle.reg_floored.proofs.parts.keep_from.Goals as goal

pub returns : goal.returns
returns c = filter_same _ (λ r. nat_le c.args.floor r.offset) _ (λ x b q h. (search rules, search rules)) _ _ c.retain.ensures.filtered
