use Rattle.std.proofs.Common.{map, sym, ap, subst, ◌∙◌}
use Rattle.std.specs.FinMap as finmap
use Rattle.reg_entries.specs.Covered.{shown_all}
use Rattle.reg_entries.specs.EntryOrder.{IsInOrder}
use Rattle.reg_entries.proofs.Shown.{in_order_shown}
use Rattle.reg_entries.proofs.Views.{values-view}
use Rattle.reg_entries.proofs.entries.Entries.all_shown.Goals as goal

pub returns-clause-all : goal.returns-clause-all
returns-clause-all c =
    let deletes = c.args.deletes.now in
    c.in_ok-found.ensures
    ∙ ap (shown_all deletes)
    (ap (map (λ e. e.now)) c.deref.ensures.value
    ∙ c.in_ok-stored_entries.ensures
    ∙ sym (values-view c.self.inside.entries c.self.invariant.0.ordered)
    ∙ ap finmap.values c.self.view_is)

pub returns-clause-in_order : goal.returns-clause-in_order
returns-clause-in_order c =
    let m = c.self.inside.entries in
    let i = c.self.invariant.0 in
    let deletes = c.args.deletes.now in
    subst IsInOrder
    (sym (c.in_ok-found.ensures ∙ ap (shown_all deletes) (ap (map (λ e. e.now)) c.deref.ensures.value ∙ c.in_ok-stored_entries.ensures)))
    (in_order_shown deletes m i.ordered i.placed)
