use Rattle.std.proofs.Common.{◌≡◌, [], Some, None, sym, ap, subst, ◌∙◌, rules}
use Rattle.std.specs.BTreeMap.{get}
use Rattle.std.specs.FinSet.{contains}
use Rattle.std.specs.List.{list_any}
use Rattle.std.specs.Option.{option_map_or}
use Rattle.std.specs.Ordering.{eq_by_cmp}
use Rattle.reg_set.specs.ByKey.{AreOf}
use Rattle.reg_set.specs.RecordOrder.{key_cmp, record_cmp}
use Rattle.reg_set.proofs.Listed.{contains-set_of}
use Rattle.reg_set.proofs.record_set.RecordSet.contains.Goals as goal

pub is_among-requires : goal.is_among-requires
is_among-requires c =
    let key = c.args.given.now.key in
    let is : get key_cmp c.self.inside.by_key key ≡ Some c.in-Some.records.now = search rules in
    subst (AreOf key) (ap (λ o. option_map_or (λ v. v.items) o []) is ∙ sym c.deref.ensures.value) (c.self.invariant.of_keys key)

pub returns-in-Some : goal.returns-in-Some
returns-in-Some c =
    let r = c.args.given.now in
    let m = c.self.inside.by_key in
    let is : get key_cmp m r.key ≡ Some c.in-Some.records.now = search rules in
    c.is_among.ensures
    ∙ ap (list_any (eq_by_cmp record_cmp r)) (c.deref.ensures.value ∙ sym (ap (λ o. option_map_or (λ v. v.items) o []) is))
    ∙ sym (contains-set_of m c.self.invariant r) ∙ ap (λ s. contains s r) c.self.view_is

pub returns-in-None : goal.returns-in-None
returns-in-None c =
    let r = c.args.given.now in
    let m = c.self.inside.by_key in
    let is : get key_cmp m r.key ≡ None = search rules in
    ap (list_any (eq_by_cmp record_cmp r)) (sym (ap (λ o. option_map_or (λ v. v.items) o []) is))
    ∙ sym (contains-set_of m c.self.invariant r) ∙ ap (λ s. contains s r) c.self.view_is
