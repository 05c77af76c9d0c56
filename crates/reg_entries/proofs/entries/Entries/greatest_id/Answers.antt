use Rattle.std.proofs.Common.{Some, sym, ap, ◌∙◌}
use Rattle.std.specs.FinMap as finmap
use Rattle.reg_entries.specs.Sought.{greatest_id}
use Rattle.reg_entries.specs.declared.entry.Entry.{Entry}
use Rattle.reg_entries.proofs.Queries.{greatest_id_none, greatest_id_some, no_name, some_at_name}
use Rattle.reg_entries.proofs.Views.{values-view}
use Rattle.reg_entries.proofs.entries.Entries.greatest_id.Goals as goal

pub returns-in_err-last : goal.returns-in_err-last
returns-in_err-last c =
    let a = c.self.inside in
    c.from_residual.ensures
    ∙ sym (greatest_id_none a.entries a.names a.tops c.self.invariant.0 (no_name a.names c.in_err-last.ensures.variant.1))
    ∙ ap greatest_id (sym (values-view a.entries c.self.invariant.0.ordered) ∙ ap finmap.values c.self.view_is)

pub returns-in_err-entry : goal.returns-in_err-entry
returns-in_err-entry c =
    let a = c.self.inside in
    absurd (
    some_at_name a.entries a.names c.self.invariant.0.named c.in_ok-last.last.now c.in_ok-last.ensures.member
    (sym c.in_err-entry.ensures.value))

pub returns : goal.returns
returns c =
    let a = c.self.inside in
    ap (λ (e : Entry). Some e.id) c.own.ensures
    ∙ greatest_id_some a.entries a.names a.tops c.self.invariant.0 c.in_ok-last.last.now c.in_ok-entry.entry.now c.in_ok-last.ensures.member
    (sym c.in_ok-entry.ensures.value) c.in_ok-last.ensures.greatest
    ∙ ap greatest_id (sym (values-view a.entries c.self.invariant.0.ordered) ∙ ap finmap.values c.self.view_is)
