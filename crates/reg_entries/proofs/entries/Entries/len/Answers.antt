use Rattle.std.proofs.Common.{length, sym, ap, ◌∙◌}
use Rattle.std.specs.FinMap as finmap
use Rattle.reg_entries.proofs.Views.{entries-view}
use Rattle.reg_entries.proofs.entries.Entries.len.Goals as goal

pub returns : goal.returns
returns c =
    c.len.ensures.len
    ∙ ap length (sym (entries-view c.self.inside.entries c.self.invariant.0.ordered))
    ∙ sym (finmap.len-entries _)
    ∙ ap finmap.len c.self.view_is
