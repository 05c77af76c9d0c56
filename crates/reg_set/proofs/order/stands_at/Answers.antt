use Rattle.std.proofs.Common.{sym, ap, ◌∙◌}
use Rattle.std.proofs.Math.ListN.{drop_of_length-le}
use Rattle.std.specs.List.{list_any}
use Rattle.std.specs.Ordering.{eq_by_cmp}
use Rattle.reg_set.specs.RecordOrder.{record_cmp}
use Rattle.reg_set.proofs.Equality.{eq-by_cmp}
use Rattle.reg_set.proofs.Places.{any_from_place, any_at_place}
use Rattle.reg_set.proofs.order.stands_at.Goals as goal

pub returns-in-Some : goal.returns-in-Some
returns-in-Some c =
    let r = c.args.given.now in
    let rs = c.args.records.now in
    let other = c.in-Some.other.now in
    let lookup = c.in-Some.ensures.lookup in
    c.eq.ensures ∙ eq-by_cmp r other
    ∙ sym (
    any_from_place r rs c.args.place c.requires.before
    ∙ any_at_place r rs c.args.place other lookup.3.0 lookup.1 c.requires.in_order c.requires.not_before)

pub returns-in-None : goal.returns-in-None
returns-in-None c =
    let r = c.args.given.now in
    let rs = c.args.records.now in
    let none = drop_of_length-le rs c.in-None.ensures.lookup.3 in
    sym (any_from_place r rs c.args.place c.requires.before ∙ ap (list_any (eq_by_cmp record_cmp r)) none)
