use Rattle.std.proofs.Common.{map, reverse, sym, ap, ◌∙◌}
use Rattle.std.specs.BTreeMap.{get_by_text}
use Rattle.std.specs.BTreeMap.Range.{entries_between}
use Rattle.std.specs.FinMap as finmap
use Rattle.std.specs.List.{find}
use Rattle.std.specs.Map.{values_of}
use Rattle.std.specs.Ordering.{is_gt}
use Rattle.std.specs.declared.ops.Bound.TheVariants.{Included}
use Rattle.reg_entries.specs.Covered.{shown_all, under}
use Rattle.reg_entries.specs.EntryOrder.{place_cmp}
use Rattle.reg_entries.specs.Sought.{counts, latest}
use Rattle.reg_entries.proofs.Found.{at_places, between_is_subject, forward}
use Rattle.reg_entries.proofs.Shown.{latest_shown}
use Rattle.reg_entries.proofs.Views.{values-view}
use Rattle.reg_entries.proofs.entries.Entries.latest.Goals as goal

pub last_counting-requires : goal.last_counting-requires
last_counting-requires c =
    let s = c.args.subject.now in
    (λ i. is_gt (place_cmp (c.in_ok-copy_of.ensures i, 0) (c.in_ok-copy_of-2.ensures i, 4294967295))) ∙ forward s

pub returns : goal.returns
returns c =
    let m = c.self.inside.entries in
    let i = c.self.invariant.0 in
    let s = c.args.subject.now in
    let deleted = c.args.deleted in
    let deletes = c.args.deletes.now in
    let d = get_by_text deletes s in
    c.last_counting.ensures
    ∙ (λ i.
    find (counts deleted)
    (reverse (
    map (under (c.delete_of-delete.ensures i))
    (values_of (
    entries_between place_cmp (Included (c.in_ok-copy_of.ensures i, 0))
    (Included (c.in_ok-copy_of-2.ensures i, 4294967295)) m.entries)))))
    ∙ ap (λ es. find (counts deleted) (reverse (map (under d) es))) (between_is_subject s m.entries (at_places m i.ordered i.placed))
    ∙ latest_shown deletes m i.ordered i.placed s deleted
    ∙ ap (λ es. latest (shown_all deletes es) s deleted) (sym (values-view m i.ordered) ∙ ap finmap.values c.self.view_is)
