use Rattle.std.proofs.Common.{◌≡◌, Some, None, sym, ap, subst, ◌∙◌}
use Rattle.std.specs.BTreeMap.{get_by_text}
use Rattle.std.specs.FinMap as finmap
use Rattle.std.specs.Option.{option_copied}
use Rattle.reg_entries.specs.Covered.{shown_all}
use Rattle.reg_entries.specs.Index.{IsTop}
use Rattle.reg_entries.specs.Sought.{has_live}
use Rattle.reg_entries.proofs.Shown.{none_shown}
use Rattle.reg_entries.proofs.Views.{values-view}
use Rattle.reg_entries.proofs.entries.Entries.has_live_of.Goals as goal

pub any_live_up_to-requires-clause-top : goal.any_live_up_to-requires-clause-top
any_live_up_to-requires-clause-top c =
    let m = c.self.inside.entries in
    let s = c.args.subject.now in
    let at : get_by_text c.self.inside.tops s ≡ Some c.in-Some.top.now = sym c.get.ensures.value ∙ ap option_copied c.in-Some.is in
    let own : IsTop m s (Some c.in-Some.top.now) = subst (IsTop m s) at (c.self.invariant.0.top s) in
    subst (λ t. IsTop m t (Some c.in-Some.top.now)) (sym own.0) own

pub returns-in-Some : goal.returns-in-Some
returns-in-Some c =
    let m = c.self.inside.entries in
    let s = c.args.subject.now in
    let deletes = c.args.deletes.now in
    let at : get_by_text c.self.inside.tops s ≡ Some c.in-Some.top.now = sym c.get.ensures.value ∙ ap option_copied c.in-Some.is in
    let own : IsTop m s (Some c.in-Some.top.now) = subst (IsTop m s) at (c.self.invariant.0.top s) in
    c.any_live_up_to.ensures
    ∙ (λ i. has_live (shown_all deletes (sym (values-view m c.self.invariant.0.ordered) i)) (Some (own.0 i)))
    ∙ ap (λ f. has_live (shown_all deletes (finmap.values f)) (Some s)) c.self.view_is

pub returns-in-None : goal.returns-in-None
returns-in-None c =
    let m = c.self.inside.entries in
    let s = c.args.subject.now in
    let deletes = c.args.deletes.now in
    let none : get_by_text c.self.inside.tops s ≡ None = sym c.get.ensures.value ∙ ap option_copied c.in-None.is in
    sym (none_shown deletes m c.self.invariant.0.ordered c.self.invariant.0.placed s (subst (IsTop m s) none (c.self.invariant.0.top s)))
    ∙ ap (λ es. has_live (shown_all deletes es) (Some s)) (sym (values-view m c.self.invariant.0.ordered) ∙ ap finmap.values c.self.view_is)
