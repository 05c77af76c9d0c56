use Rattle.std.proofs.Common.{◌≡◌, ◌-◌, [], Some, None, length, sym, ap, ◌∙◌, rules}
use Rattle.std.specs.BTreeMap.{get}
use Rattle.std.specs.List.{slice_get}
use Rattle.std.specs.Option.{option_map_or}
use Rattle.reg_set.specs.LastRecords.{last}
use Rattle.reg_set.specs.RecordOrder.{key_cmp}
use Rattle.reg_set.proofs.Listed.{last-at, last-none_at}
use Rattle.reg_set.proofs.record_set.RecordSet.last.Goals as goal

pub returns-in-Some : goal.returns-in-Some
returns-in-Some c =
    let key = c.args.key.now in
    let m = c.self.inside.by_key in
    let is : get key_cmp m key ≡ Some c.in-Some.records.now = search rules in
    c.last.ensures.value
    ∙ ap (λ xs. slice_get xs (length xs - 1)) (c.deref.ensures.value ∙ sym (ap (λ o. option_map_or (λ v. v.items) o []) is))
    ∙ last-at m c.self.invariant key ∙ ap (λ s. last s key) c.self.view_is

pub returns-in-None : goal.returns-in-None
returns-in-None c =
    let key = c.args.key.now in
    let m = c.self.inside.by_key in
    let is : get key_cmp m key ≡ None = search rules in
    sym (last-none_at m c.self.invariant key (ap (λ o. option_map_or (λ v. v.items) o []) is)) ∙ ap (λ s. last s key) c.self.view_is
