use Rattle.std.proofs.Common.{ap, ◌∙◌}
use Rattle.std.proofs.lemmas.Map.Iter.{iter_end}
use Rattle.std.specs.BTreeMap.{values}
use Rattle.std.specs.List.{flat_map}
use Rattle.std.specs.Map.Iter.{deref}
use Rattle.reg_set.proofs.Listed.{joined_more}
use Rattle.reg_set.proofs.by_key.copy_all.Goals as goal

pub loop-records-preserved : goal.loop-records-preserved
loop-records-preserved c =
    c.in_ok-push_copies.ensures
    ∙ joined_more c.loop-records.yielded c.in-Some.records c.loop-records.found.items _ c.loop-records.invariant c.deref.ensures.value

pub returns : goal.returns
returns c =
    let all = values c.args.by_key.now in
    let end = iter_end deref all c.loop-records.yielded c.into_iter-records-iterator.result c.loop-records.records-iterator
    c.next.new.self c.next.result (c.into_iter-records-iterator.ensures.into_iter_gives ∙ c.values-records-items.ensures.rest)
    c.loop-records.yielded_by c.in-None.is c.next.ensures.steps in
    c.loop-records.invariant ∙ ap (flat_map (λ v. v.items)) end.0
