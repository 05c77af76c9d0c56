use Rattle.std.proofs.Common.{◌≡◌, true, false, cond, Some, None, option_map, sym, ap, ◌∙◌}
use Rattle.std.proofs.lemmas.Map.Entries.{option_filter}
use Rattle.std.specs.FinMap as finmap
use Rattle.reg_entries.specs.Covered.{shown, shown_all}
use Rattle.reg_entries.specs.Index.{entry_at}
use Rattle.reg_entries.specs.Sought.{counts, of_version}
use Rattle.reg_entries.proofs.Shown.{of_version_shown}
use Rattle.reg_entries.proofs.Views.{values-view}
use Rattle.reg_entries.proofs.entries.Entries.of_version.Goals as goal

pub returns-in_default : goal.returns-in_default
returns-in_default c =
    let m = c.self.inside.entries in
    let i = c.self.invariant.0 in
    let s = c.args.subject.now in
    let v = c.args.version in
    let deleted = c.args.deleted in
    let deletes = c.args.deletes.now in
    ap (λ o. option_filter (counts deleted) (option_map (shown deletes) o))
    (c.in_default.ensures.value ∙ (λ i. entry_at m (c.in_ok-copy_of.ensures i, v)))
    ∙ of_version_shown deletes m i.ordered i.placed s deleted v
    ∙ ap (λ es. of_version (shown_all deletes es) s v deleted) (sym (values-view m i.ordered) ∙ ap finmap.values c.self.view_is)

pub returns-then-counts : goal.returns-then-counts
returns-then-counts c =
    let m = c.self.inside.entries in
    let i = c.self.invariant.0 in
    let s = c.args.subject.now in
    let v = c.args.version in
    let deleted = c.args.deleted in
    let deletes = c.args.deletes.now in
    let entry = c.shown-entry.result.now in
    let is : counts deleted entry ≡ true = sym c.counts.ensures ∙ c.if-counts.true in
    ap (λ b. cond b (Some entry) None) (sym is)
    ∙ ap (λ e. option_filter (counts deleted) (Some e)) c.shown-entry.ensures
    ∙ ap (λ o. option_filter (counts deleted) (option_map (shown deletes) o))
    (c.in-Some.ensures.value ∙ (λ i. entry_at m (c.in_ok-copy_of.ensures i, v)))
    ∙ of_version_shown deletes m i.ordered i.placed s deleted v
    ∙ ap (λ es. of_version (shown_all deletes es) s v deleted) (sym (values-view m i.ordered) ∙ ap finmap.values c.self.view_is)

pub returns : goal.returns
returns c =
    let m = c.self.inside.entries in
    let i = c.self.invariant.0 in
    let s = c.args.subject.now in
    let v = c.args.version in
    let deleted = c.args.deleted in
    let deletes = c.args.deletes.now in
    let entry = c.shown-entry.result.now in
    let isnt : counts deleted entry ≡ false = sym c.counts.ensures ∙ c.if-counts.false in
    ap (λ b. cond b (Some entry) None) (sym isnt)
    ∙ ap (λ e. option_filter (counts deleted) (Some e)) c.shown-entry.ensures
    ∙ ap (λ o. option_filter (counts deleted) (option_map (shown deletes) o))
    (c.in-Some.ensures.value ∙ (λ i. entry_at m (c.in_ok-copy_of.ensures i, v)))
    ∙ of_version_shown deletes m i.ordered i.placed s deleted v
    ∙ ap (λ es. of_version (shown_all deletes es) s v deleted) (sym (values-view m i.ordered) ∙ ap finmap.values c.self.view_is)
