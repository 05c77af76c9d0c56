use Rattle.std.proofs.Common.{◌≡◌, Some, None, false, sym, ap, ◌∙◌, rules}
use Rattle.std.specs.Option.{option_map_or}
use Rattle.std.specs.Ordering.{eq_by_cmp}
use Rattle.reg_set.specs.LastRecords.{last}
use Rattle.reg_set.specs.RecordOrder.{record_cmp}
use Rattle.reg_floored.proofs.Equality.{eq-by_cmp, is_last-of}
use Rattle.reg_floored.proofs.dropping.is_last.Goals as goal

pub returns-in-Some : goal.returns-in-Some
returns-in-Some c =
    let o = c.records_are_ordered.ensures in
    let s = c.args.set.now in
    let r = c.args.given.now in
    let is : last s r.key ≡ Some c.in-Some.last.now = search rules in
    c.eq.ensures
    ∙ eq-by_cmp o.all o.apart c.in-Some.last.now r
    ∙ ap (λ o. option_map_or (eq_by_cmp record_cmp r) o false) (sym is)
    ∙ sym (is_last-of s r)

pub returns-in-None : goal.returns-in-None
returns-in-None c =
    let s = c.args.set.now in
    let r = c.args.given.now in
    let is : last s r.key ≡ None = search rules in
    ap (λ o. option_map_or (eq_by_cmp record_cmp r) o false) (sym is) ∙ sym (is_last-of s r)
