use Rattle.std.proofs.Common.{ap, option_map, ◌∙◌}
use Rattle.reg_fold.specs.InForce.{own_level}
use Rattle.reg_fold.proofs.registry.Registry.own_level.Goals as goal

pub returns : goal.returns
returns c =
    let scope = option_map (λ s. s.now) c.args.subject in
    c.copied.ensures ∙ c.of.ensures ∙ c.self.invariant.all_levels scope ∙ ap (λ rs. own_level rs scope) c.self.view_is
