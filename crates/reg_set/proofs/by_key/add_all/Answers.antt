use Rattle.std.proofs.Common.{map, refl, sym, ap, ◌∙◌}
use Rattle.std.proofs.lemmas.Map.Iter.{iter_end}
use Rattle.std.specs.BTreeMap.{values}
use Rattle.std.specs.FinSet.{from_list, union}
use Rattle.std.specs.List.{flat_map}
use Rattle.std.specs.Map.Iter.{deref}
use Rattle.reg_set.proofs.Joined.{list_joined, union-nothing}
use Rattle.reg_set.proofs.Listed.{joined_more}
use Rattle.reg_set.proofs.by_key.add_all.Goals as goal

pub loop-records-init : goal.loop-records-init
loop-records-init c = sym (union-nothing c.args.into.now)

pub loop-records-preserved : goal.loop-records-preserved
loop-records-preserved c =
    let done = flat_map (λ v. v.items) (map deref c.loop-records.yielded) in
    c.in_ok-add_each.ensures ∙ ap (λ s. union s (from_list c.deref.result.now)) c.loop-records.invariant
    ∙ list_joined c.args.into.now done c.deref.result.now
    ∙ ap (λ l. union c.args.into.now (from_list l))
    (joined_more c.loop-records.yielded c.in-Some.records done c.deref.result.now refl c.deref.ensures.value)

pub returns : goal.returns
returns c =
    let all = values c.args.by_key.now in
    let end = iter_end deref all c.loop-records.yielded c.into_iter-records-iterator.result c.loop-records.records-iterator
    c.next.new.self c.next.result (c.into_iter-records-iterator.ensures.into_iter_gives ∙ c.values-records-items.ensures.rest)
    c.loop-records.yielded_by c.in-None.is c.next.ensures.steps in
    c.loop-records.invariant ∙ ap (λ vs. union c.args.into.now (from_list (flat_map (λ v. v.items) vs))) end.0
