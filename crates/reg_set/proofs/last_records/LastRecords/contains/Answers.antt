use Rattle.std.proofs.Common.{◌≡◌, Some, None, false, sym, ap, ◌∙◌, rules}
use Rattle.std.specs.FinSet as set
use Rattle.std.specs.Option.{option_map_or}
use Rattle.std.specs.Ordering.{eq_by_cmp}
use Rattle.reg_set.specs.Index.{last_at}
use Rattle.reg_set.specs.RecordOrder.{record_cmp}
use Rattle.reg_set.proofs.ByKey.{contains-set_of}
use Rattle.reg_set.proofs.Equality.{eq-by_cmp}
use Rattle.reg_set.proofs.last_records.LastRecords.contains.Goals as goal

pub returns-in-Some : goal.returns-in-Some
returns-in-Some c =
    let r = c.args.given.now in
    let m = c.self.inside.by_key in
    let found = c.in-Some.last.now in
    let is : last_at m r.key ≡ Some found = search rules in
    c.eq.ensures ∙ eq-by_cmp r found ∙ ap (λ o. option_map_or (eq_by_cmp record_cmp r) o false) (sym is)
    ∙ sym (contains-set_of m c.self.invariant r) ∙ ap (λ s. set.contains s r) c.self.view_is

pub returns-in-None : goal.returns-in-None
returns-in-None c =
    let r = c.args.given.now in
    let m = c.self.inside.by_key in
    let is : last_at m r.key ≡ None = search rules in
    ap (λ o. option_map_or (eq_by_cmp record_cmp r) o false) (sym is)
    ∙ sym (contains-set_of m c.self.invariant r) ∙ ap (λ s. set.contains s r) c.self.view_is
