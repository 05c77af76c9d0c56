use Rattle.std.proofs.Common.{option_map, sym, ap, ◌∙◌}
use Rattle.std.specs.BTreeMap.{get_by_text}
use Rattle.std.specs.FinMap as finmap
use Rattle.reg_entries.specs.EntryOrder.{Place}
use Rattle.reg_entries.specs.Sought.{greatest_version}
use Rattle.reg_entries.proofs.Queries.{greatest_version_is}
use Rattle.reg_entries.proofs.Views.{values-view}
use Rattle.reg_entries.proofs.entries.Entries.greatest_version.Goals as goal

pub returns-in_err-get : goal.returns-in_err-get
returns-in_err-get c =
    let a = c.self.inside in
    let s = c.args.subject.now in
    c.from_residual.ensures
    ∙ ap (option_map (λ (p : Place). p.1)) c.in_err-get.ensures.value
    ∙ greatest_version_is a.entries a.names a.tops c.self.invariant.0 s (get_by_text a.tops s) (c.self.invariant.0.top s)
    ∙ ap (λ es. greatest_version es s) (sym (values-view a.entries c.self.invariant.0.ordered) ∙ ap finmap.values c.self.view_is)

pub returns : goal.returns
returns c =
    let a = c.self.inside in
    let s = c.args.subject.now in
    ap (option_map (λ (p : Place). p.1)) c.in_ok-get.ensures.value
    ∙ greatest_version_is a.entries a.names a.tops c.self.invariant.0 s (get_by_text a.tops s) (c.self.invariant.0.top s)
    ∙ ap (λ es. greatest_version es s) (sym (values-view a.entries c.self.invariant.0.ordered) ∙ ap finmap.values c.self.view_is)
