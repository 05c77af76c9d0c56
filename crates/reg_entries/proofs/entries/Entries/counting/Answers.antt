use Rattle.std.proofs.Common.{◌&&◌, map, bytes_eq, sym, ap, subst, ◌∙◌}
use Rattle.std.proofs.lemmas.Slice.Eq.{bytes_eq-Decides}
use Rattle.std.specs.FinMap as finmap
use Rattle.std.specs.List.{filter}
use Rattle.std.specs.Map.{values_of}
use Rattle.reg_entries.specs.Covered.{shown_all, under}
use Rattle.reg_entries.specs.Sought.{counts, counting, of_subject, AreInVersionOrder}
use Rattle.reg_entries.proofs.Found.{filter_filter, left_of, map_filter, versions_rise}
use Rattle.reg_entries.proofs.Shown.{in_order_shown, under_subject}
use Rattle.reg_entries.proofs.Views.{values-view}
use Rattle.reg_entries.proofs.entries.Entries.counting.Goals as goal

all_here : goal.returns-clause-all
all_here c =
    let s = c.args.subject.now in
    let deletes = c.args.deletes.now in
    let es = finmap.values c.args.self.now in
    ap (map (λ e. e.now)) c.keep_counting.ensures
    ∙ map_filter (λ e. e.now) (counts c.args.deleted) c.in_ok-found.found.items
    ∙ ap (filter (counts c.args.deleted))
    (c.in_ok-found.ensures
    ∙ ap (map (under c.delete_of.result)) (ap (map (λ e. e.now)) c.deref.ensures.value ∙ c.in_ok-stored_entries.ensures.all)
    ∙ (λ i. map (under (c.delete_of.ensures i)) (of_subject es s))
    ∙ under_subject deletes s es)

pub returns-clause-all : goal.returns-clause-all
returns-clause-all c = all_here c

pub returns-clause-in_order : goal.returns-clause-in_order
returns-clause-in_order c =
    let m = c.self.inside.entries in
    let s = c.args.subject.now in
    let i = c.self.invariant.0 in
    let deleted = c.args.deleted in
    let deletes = c.args.deletes.now in
    let es = shown_all deletes (values_of m.entries) in
    let rise : AreInVersionOrder (filter (λ e. bytes_eq e.subject s && counts deleted e) es) =
    versions_rise s (λ e. bytes_eq e.subject s && counts deleted e)
    (λ e h. (bytes_eq-Decides e.subject s).0 (left_of _ _ h)) es (in_order_shown deletes m i.ordered i.placed) in
    let here : AreInVersionOrder (counting es s deleted) =
    subst AreInVersionOrder (sym (filter_filter (λ e. bytes_eq e.subject s) (counts deleted) es)) rise in
    subst AreInVersionOrder (
    sym (
    all_here c
    ∙ ap (λ es. counting (shown_all deletes es) s deleted) (sym (ap finmap.values c.self.view_is) ∙ values-view m i.ordered))) here
