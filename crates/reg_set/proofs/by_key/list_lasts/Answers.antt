use Rattle.std.proofs.Common.{◌≡◌, [], ◌++◌, map, Some, List, sym, ap, subst, ◌∙◌, rules}
use Rattle.std.proofs.lemmas.Map.Iter.{btree_map_turn, iter_end}
use Rattle.std.specs.BTreeMap.{get}
use Rattle.std.specs.FinSet.{from_list}
use Rattle.std.specs.List.{flat_map}
use Rattle.std.specs.Map.{values_of}
use Rattle.std.specs.Map.Iter.{deref_pair}
use Rattle.std.specs.Option.{option_map_or}
use Rattle.reg_records.specs.contracts.key.KeyOrd.TheImpl.Laws.{total-law}
use Rattle.reg_records.specs.declared.record.Record.{Record}
use Rattle.reg_set.specs.ByKey.{AreOf}
use Rattle.reg_set.specs.Compaction.{KeepsLasts}
use Rattle.reg_set.specs.RecordOrder.{key_cmp}
use Rattle.reg_set.proofs.KeptLasts.{keeps_own_lasts}
use Rattle.reg_set.proofs.Listed.{entry_more}
use Rattle.reg_set.proofs.Unions.{from_list-both}
use Rattle.reg_set.proofs.by_key.list_lasts.Goals as goal

pub loop-key-init : goal.loop-key-init
loop-key-init c =
    let none : c.new-found.result.items ≡ [] = search rules in
    subst (λ xs. KeepsLasts (from_list (map (λ r. r.now) xs)) (from_list [])) (sym none) (keeps_own_lasts (from_list []))

pub push_last-requires : goal.push_last-requires
push_last-requires c =
    let m = c.args.by_key.now in
    let key = c.in-Some.key.now in
    let turn = btree_map_turn deref_pair c.loop-key.yielded c.into_iter-key-iterator.result c.loop-key.key-iterator
    c.next.new.self c.next.result (c.in-Some.key, c.in-Some.records) c.loop-key.yielded_by c.in-Some.is
    c.next.ensures.steps total-law m c.into_iter-key-iterator.ensures.into_iter_gives.0 c.requires.is_ordered in
    let at : get key_cmp m key ≡ Some c.in-Some.records.now = turn.1 in
    subst (AreOf key) (ap (λ o. option_map_or (λ v. v.items) o []) at ∙ sym c.deref.ensures.value) (c.requires.of_keys key)

pub loop-key-preserved : goal.loop-key-preserved
loop-key-preserved c =
    let done = flat_map (λ v. v.items) (values_of (map deref_pair c.loop-key.yielded)) in
    let seen = c.deref.result.now in
    let all =
    sym (from_list-both done seen)
    ∙ ap (λ (l : List Record). from_list l)
    (ap (λ l. done ++ l) c.deref.ensures.value ∙ sym (entry_more c.loop-key.yielded (c.in-Some.key, c.in-Some.records))) in
    subst (KeepsLasts (from_list (map (λ r. r.now) c.push_last.new.found.items))) all
    (c.in_ok-push_last.ensures (from_list done) c.loop-key.invariant)

pub returns : goal.returns
returns c =
    let all = c.args.by_key.now.entries in
    let end = iter_end deref_pair all c.loop-key.yielded c.into_iter-key-iterator.result c.loop-key.key-iterator c.next.new.self
    c.next.result c.into_iter-key-iterator.ensures.into_iter_gives.0 c.loop-key.yielded_by c.in-None.is c.next.ensures.steps in
    subst (λ es. KeepsLasts (from_list (map (λ r. r.now) c.loop-key.found.items)) (from_list (flat_map (λ v. v.items) (values_of es))))
    end.0 c.loop-key.invariant
