use Rattle.std.proofs.Common.{◌≡◌, ◌+◌, [], map, List, sym, ap, ◌∙◌, subst, rules}
use Rattle.std.proofs.lemmas.List.{map_push}
use Rattle.std.proofs.lemmas.List.Sorted.{IsPermutation-map, answers_always, ranks_by}
use Rattle.std.proofs.lemmas.Map.Iter.{iter_end}
use Rattle.std.specs.BTreeSet.{keys_between}
use Rattle.std.specs.List.{filter_map}
use Rattle.std.specs.List.Sorted.{IsPermutation}
use Rattle.std.specs.Map.Iter.{deref}
use Rattle.std.specs.Ordering.{is_lt}
use Rattle.std.specs.declared.ops.Bound.TheVariants.{Included, Excluded}
use Rattle.reg_entries.specs.Index.{Name, name_cmp, entry_at}
use Rattle.reg_entries.specs.declared.entry.Entry.{Entry}
use Rattle.reg_entries.proofs.OfId.{by_place, by_place-total, filter_map_none, filter_map_some, with_id_is}
use Rattle.reg_entries.proofs.ids.list_by_name.Goals as goal

pub loop-name-preserved-in_default : goal.loop-name-preserved-in_default
loop-name-preserved-in_default c =
    let named = λ (k : Name). entry_at c.args.entries.now k.2 in
    filter_map_none named (map deref c.loop-name.yielded) c.in-Some.name.now _ c.loop-name.invariant (sym c.in_default.ensures.value)
    ∙ ap (filter_map named) (sym (map_push deref c.loop-name.yielded c.in-Some.name))

pub loop-name-preserved : goal.loop-name-preserved
loop-name-preserved c =
    let named = λ (k : Name). entry_at c.args.entries.now k.2 in
    let entry = c.in-Some-get.entry in
    ap (map (λ e. e.now)) c.in_ok-push.ensures.items ∙ map_push (λ e. e.now) c.loop-name.found.items entry
    ∙ filter_map_some named (map deref c.loop-name.yielded) c.in-Some.name.now _ entry.now c.loop-name.invariant
    (sym c.in-Some-get.ensures.value)
    ∙ ap (filter_map named) (sym (map_push deref c.loop-name.yielded c.in-Some.name))

pub returns : goal.returns
returns c =
    let m = c.args.entries.now in
    let names = c.args.names.now in
    let named = λ (k : Name). entry_at m k.2 in
    let all = keys_between name_cmp (Included (c.args.id, 0, ([], 0))) (Excluded (c.args.id + 1, 0, ([], 0))) names in
    let start : c.into_iter-name-iterator.result ≡ all =
    c.into_iter-name-iterator.ensures.into_iter_gives ∙ c.names_of-name-items.ensures.names in
    let end = iter_end deref all c.loop-name.yielded c.into_iter-name-iterator.result c.loop-name.name-iterator
    c.next.new.self c.next.result start c.loop-name.yielded_by c.in-None.is c.next.ensures.steps in
    let sorted = c.sort_unstable_by.new.self.items in
    let moved : IsPermutation (filter_map named all) (map (λ e. e.now) sorted) =
    subst (λ (es : List Entry). IsPermutation es (map (λ e. e.now) sorted)) (c.loop-name.invariant ∙ ap (filter_map named) end.0)
    (IsPermutation-map (λ e. e.now) c.loop-name.found.items sorted c.sort_unstable_by.ensures.permutation) in
    with_id_is m names c.requires.ordered c.requires.placed c.requires.named c.args.id
    (λ e. e.now) sorted c.names_of-name-items.ensures.ordered moved
    (c.sort_unstable_by.ensures.sorted (λ x y. is_lt (by_place x.now y.now))
    (ranks_by by_place-total (λ e. e.now)) (answers_always _ _ _ (λ f a r g k. search rules)))
