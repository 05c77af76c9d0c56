use Rattle.std.proofs.Common.{◌≡◌, [], Some, Result, Ok, Err, sym, ap, subst, ◌∙◌, rules}
use Rattle.std.specs.BTreeMap.{get}
use Rattle.std.specs.Prelude.{is_some, OnErr}
use Rattle.std.specs.List.{list_all}
use Rattle.std.specs.Option.{option_map_or}
use Rattle.std.specs.Ordering.{is_lt}
use Rattle.reg_set.specs.ByKey.{AreOf}
use Rattle.reg_set.specs.RecordOrder.{key_cmp, record_cmp}
use Rattle.reg_set.proofs.Listed.{AreSame-updated}
use Rattle.reg_set.proofs.by_key.take_in.Goals as goal

pub take_among-requires : goal.take_among-requires
take_among-requires c =
    let key = c.args.given.now.key in
    let is : get key_cmp c.args.by_key.now key ≡ Some c.in-Some.records.now = search rules in
    subst (AreOf key) (ap (λ o. option_map_or (λ v. v.items) o []) is) (c.requires.of_keys key)

pub returns-in_ok-taken-in-Some-clause-fresh : goal.returns-in_ok-taken-in-Some-clause-fresh
returns-in_ok-taken-in-Some-clause-fresh c =
    let r = c.args.given.now in
    let is : get key_cmp c.args.by_key.now r.key ≡ Some c.in-Some.records.now = search rules in
    let same = ap (λ o. list_all (λ q. is_lt (record_cmp q r)) (option_map_or (λ v. v.items) o [])) is in
    (λ e. same ∙ c.in_ok-taken-in-Some.ensures.fresh.0 e, λ h. c.in_ok-taken-in-Some.ensures.fresh.1 (sym same ∙ h))

on_err : {T E P : Type 0} (r : Result T E) → P → OnErr r P
on_err (Ok x) h = tt
on_err (Err e) h = h

pub returns-in_err-taken-in-Some-clause-refused : goal.returns-in_err-taken-in-Some-clause-refused
returns-in_err-taken-in-Some-clause-refused c =
    let r = c.args.given.now in
    let m = c.args.by_key.now in
    let w = c.take_among.new.records in
    let is : get key_cmp m r.key ≡ Some c.in-Some.records.now = search rules in
    on_err _ (
    AreSame-updated m (c.get_mut.follows.lender w) r.key w ((c.get_mut.follows.holds w).3 (ap is_some is))
    (c.in_err-taken-in-Some.ensures.refused ∙ sym (ap (λ o. option_map_or (λ v. v.items) o []) is)))
