use Rattle.std.proofs.Common.{bytes_eq, sym, ap, subst, ◌∙◌}
use Rattle.std.proofs.lemmas.Slice.Eq.{bytes_eq-Decides}
use Rattle.std.specs.BTreeMap.Range.{entries_between}
use Rattle.std.specs.FinMap as finmap
use Rattle.std.specs.Map.{values_of}
use Rattle.std.specs.Ordering.{is_gt}
use Rattle.std.specs.declared.ops.Bound.TheVariants.{Included}
use Rattle.reg_entries.specs.EntryOrder.{place_cmp}
use Rattle.reg_entries.specs.Sought.{of_subject, AreInVersionOrder}
use Rattle.reg_entries.proofs.Found.{at_places, between_is_subject, forward, values_in_order, versions_rise}
use Rattle.reg_entries.proofs.Views.{values-view}
use Rattle.reg_entries.proofs.entries.Entries.stored_entries_of.Goals as goal

pub list_between-requires : goal.list_between-requires
list_between-requires c =
    let s = c.args.subject.now in
    (λ i. is_gt (place_cmp (c.in_ok-copy_of.ensures i, 0) (c.in_ok-copy_of-2.ensures i, 4294967295))) ∙ forward s

all_here : goal.returns-clause-all
all_here c =
    let m = c.self.inside.entries in
    let s = c.args.subject.now in
    c.in_ok-found.ensures
    ∙ (λ i. values_of (
    entries_between place_cmp (Included (c.in_ok-copy_of.ensures i, 0)) (Included (c.in_ok-copy_of-2.ensures i, 4294967295)) m.entries))
    ∙ between_is_subject s m.entries (at_places m c.self.invariant.0.ordered c.self.invariant.0.placed)
    ∙ ap (λ es. of_subject es s) (sym (values-view m c.self.invariant.0.ordered) ∙ ap finmap.values c.self.view_is)

pub returns-clause-all : goal.returns-clause-all
returns-clause-all c = all_here c

pub returns-clause-in_order : goal.returns-clause-in_order
returns-clause-in_order c =
    let m = c.self.inside.entries in
    let s = c.args.subject.now in
    let i = c.self.invariant.0 in
    let es = values_of m.entries in
    let rise : AreInVersionOrder (of_subject es s) = versions_rise s (λ e. bytes_eq e.subject s)
    (λ e. (bytes_eq-Decides e.subject s).0) es (values_in_order m.entries (at_places m i.ordered i.placed) i.ordered) in
    subst AreInVersionOrder (
    sym (all_here c ∙ ap (λ es. of_subject es s) (sym (ap finmap.values c.self.view_is) ∙ values-view m i.ordered))) rise
