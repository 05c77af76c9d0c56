use Rattle.std.proofs.Common.{map, sym, ap, ◌∙◌}
use Rattle.std.specs.FinMap as finmap
use Rattle.std.specs.Map.{values_of}
use Rattle.reg_entries.specs.Covered.{shown_all}
use Rattle.reg_entries.specs.Sought.{with_id}
use Rattle.reg_entries.proofs.Shown.{shown_with_id}
use Rattle.reg_entries.proofs.Views.{values-view}
use Rattle.reg_entries.proofs.entries.Entries.with_id.Goals as goal

pub returns : goal.returns
returns c =
    let deletes = c.args.deletes.now in
    let id = c.args.id in
    c.in_ok-found.ensures
    ∙ ap (shown_all deletes) (ap (map (λ e. e.now)) c.deref.ensures.value ∙ c.in_ok-stored_entries.ensures)
    ∙ shown_with_id deletes id (values_of c.self.inside.entries.entries)
    ∙ ap (λ es. with_id (shown_all deletes es) id)
    (sym (values-view c.self.inside.entries c.self.invariant.0.ordered) ∙ ap finmap.values c.self.view_is)
