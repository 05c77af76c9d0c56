use Rattle.std.proofs.Common.{ap, option_map, ◌∙◌}
use Rattle.reg_entries.specs.Sought as sought
use Rattle.reg_fold.specs.Entries.{entries}
use Rattle.reg_fold.proofs.Keeping.{values-kept}
use Rattle.reg_fold.proofs.registry.Registry.has_live.Goals as goal

pub returns : goal.returns
returns c =
    let all = values-kept c.self.inside.index c.self.invariant ∙ ap entries c.self.view_is in
    c.has_live.ensures ∙ ap (λ es. sought.has_live es (option_map (λ s. s.now) c.args.subject)) all
