use Rattle.std.proofs.Common.{List, sym, ap, subst, ◌∙◌}
use Rattle.std.specs.FinSet.{from_list}
use Rattle.std.specs.List.{IsDistinct}
use Rattle.std.specs.Ordering.{eq_by_cmp}
use Rattle.reg_records.specs.declared.record.Record.{Record}
use Rattle.reg_set.specs.RecordOrder.{record_cmp}
use Rattle.reg_set.specs.Records.{records_of}
use Rattle.reg_set.proofs.Distinct.{distinct-all_records}
use Rattle.reg_set.proofs.InOrder.{records_of-from_list}
use Rattle.reg_set.proofs.Unions.{from_list-permuted}
use Rattle.reg_set.proofs.record_set.RecordSet.records.Goals as goal

pub put_in_order-requires : goal.put_in_order-requires
put_in_order-requires c =
    let P : List Record → Type 0 = IsDistinct (eq_by_cmp record_cmp) in
    subst P (sym c.in_ok-found.ensures) (distinct-all_records c.self.inside.by_key c.self.invariant)

pub returns-clause-members : goal.returns-clause-members
returns-clause-members c =
    sym c.self.view_is ∙ ap from_list (sym c.in_ok-found.ensures) ∙ from_list-permuted _ _ c.in_ok-listed.ensures.moved

pub returns-clause-all : goal.returns-clause-all
returns-clause-all c =
    sym (ap records_of (returns-clause-members c) ∙ records_of-from_list _ c.in_ok-listed.ensures.in_order)
