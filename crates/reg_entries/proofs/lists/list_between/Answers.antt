use Rattle.std.proofs.Common.{◌≡◌, ap, ◌∙◌}
use Rattle.std.proofs.lemmas.Map.Iter.{iter_end}
use Rattle.std.specs.BTreeMap.Range.{entries_between}
use Rattle.std.specs.Map.{values_of}
use Rattle.std.specs.Map.Iter.{deref_pair}
use Rattle.std.specs.declared.ops.Bound.TheVariants.{Included}
use Rattle.reg_entries.specs.EntryOrder.{place_cmp}
use Rattle.reg_entries.proofs.Found.{map_map}
use Rattle.reg_entries.proofs.lists.list_between.Goals as goal

pub returns : goal.returns
returns c =
    let all = entries_between place_cmp (Included c.args.first.now) (Included c.args.last.now) c.args.entries.now.entries in
    let start : c.into_iter-entry-iterator.result ≡ all =
    c.into_iter-entry-iterator.ensures.into_iter_gives ∙ c.range-entry-items.ensures.between tt in
    let end = iter_end deref_pair all c.loop-entry.yielded c.into_iter-entry-iterator.result c.loop-entry.entry-iterator
    c.next.new.self c.next.result start c.loop-entry.yielded_by c.in-None.is c.next.ensures.steps in
    c.loop-entry.invariant ∙ map_map deref_pair (λ e. e.1) c.loop-entry.yielded ∙ ap values_of end.0
