use Rattle.std.proofs.Common.{rules}
use Rattle.std.proofs.lemmas.Fn.{filter_same}
use Rattle.reg_modes.specs.reg_entries.Sought.{counts}
use Rattle.reg_lookup.proofs.by_id.keep_counting.Goals as goal

pub returns : goal.returns
returns c = filter_same _ (λ e. counts c.args.deleted e.now) _ (λ x b q h. (search rules, search rules)) _ _ c.retain.ensures.filtered
