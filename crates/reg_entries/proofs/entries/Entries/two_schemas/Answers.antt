use Rattle.std.proofs.Common.{sym, ap, ◌∙◌}
use Rattle.std.specs.FinMap as finmap
use Rattle.reg_entries.specs.Sought.{two_schemas}
use Rattle.reg_entries.proofs.Meant.{first_doubled}
use Rattle.reg_entries.proofs.Views.{values-view}
use Rattle.reg_entries.proofs.entries.Entries.two_schemas.Goals as goal

pub returns : goal.returns
returns c =
    let a = c.self.inside in
    let i = c.self.invariant in
    c.copied.ensures
    ∙ first_doubled a.entries i.0.ordered i.0.placed a.schemas i.1 a.meanings i.2 a.doubled
    i.3 c.first.result c.first.ensures.variant c.first.ensures.member c.first.ensures.least
    ∙ ap two_schemas (sym (values-view a.entries i.0.ordered) ∙ ap finmap.values c.self.view_is)
