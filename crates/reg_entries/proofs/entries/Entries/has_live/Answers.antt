use Rattle.std.proofs.Common.{None, option_map, sym, ap, ◌∙◌}
use Rattle.std.specs.FinMap as finmap
use Rattle.reg_entries.specs.Covered.{shown_all}
use Rattle.reg_entries.specs.Sought.{has_live}
use Rattle.reg_entries.proofs.Views.{values-view}
use Rattle.reg_entries.proofs.entries.Entries.has_live.Goals as goal

pub returns-in-None : goal.returns-in-None
returns-in-None c =
    c.any_live.ensures
    ∙ ap (λ es. has_live (shown_all c.args.deletes.now es) None)
    (sym (values-view c.self.inside.entries c.self.invariant.0.ordered) ∙ ap finmap.values c.self.view_is)
    ∙ ap (λ o. has_live (shown_all c.args.deletes.now (finmap.values c.args.self.now)) (option_map (λ s. s.now) o)) (sym c.in-None.is)
