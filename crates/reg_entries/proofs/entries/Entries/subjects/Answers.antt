use Rattle.std.proofs.Common.{sym, ap, ◌∙◌}
use Rattle.std.specs.FinMap as finmap
use Rattle.reg_entries.specs.Covered.{shown_all}
use Rattle.reg_entries.specs.Sought.{subjects}
use Rattle.reg_entries.proofs.Views.{values-view}
use Rattle.reg_entries.proofs.entries.Entries.subjects.Goals as goal

pub returns : goal.returns
returns c =
    c.in_ok-found.ensures
    ∙ ap (λ es. subjects (shown_all c.args.deletes.now es) c.args.deleted)
    (sym (values-view c.self.inside.entries c.self.invariant.0.ordered) ∙ ap finmap.values c.self.view_is)
