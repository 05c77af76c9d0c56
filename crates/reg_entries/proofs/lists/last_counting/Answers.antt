use Rattle.std.proofs.Common.{ap, reverse, ◌∙◌, rules, tests}
use Rattle.std.proofs.lemmas.Iterator.{YieldsList-from_map_by}
use Rattle.std.proofs.lemmas.Iterator.Consumers.{YieldsList-at}
use Rattle.std.proofs.lemmas.Iterator.Search.{find_from_yields_List}
use Rattle.std.specs.BTreeMap.Range.{entries_between}
use Rattle.std.specs.List.{find}
use Rattle.std.specs.Map.Iter.{deref_pair}
use Rattle.std.specs.declared.ops.Bound.TheVariants.{Included}
use Rattle.reg_entries.specs.Covered.{under}
use Rattle.reg_entries.specs.EntryOrder.{Place, place_cmp}
use Rattle.reg_entries.specs.Sought.{counts}
use Rattle.reg_entries.specs.declared.entry.Entry.{Entry}
use Rattle.reg_entries.proofs.Found.{map_map}
use Rattle.reg_entries.proofs.Latest.{YieldsList-from_last, map-reverse}
use Rattle.reg_entries.proofs.lists.last_counting.Goals as goal

pub returns : goal.returns
returns c =
    let all = entries_between place_cmp (Included c.args.first.now) (Included c.args.last.now) c.args.entries.now.entries in
    let backward =
    YieldsList-at c.map.ensures.source (YieldsList-from_last deref_pair all (c.rev.ensures.source ∙ c.range.ensures.between tt)) in
    find_from_yields_List (counts c.args.deleted) _ _ c.find.result c.find.ensures.ran
    (YieldsList-from_map_by _ (λ e. e.now)
    (λ (e : Place × Entry). under c.args.delete e.1) backward c.map.ensures.closure (λ x r q k. search rules))
    (λ x b q k. search (rules, tests))
    ∙ ap (find (counts c.args.deleted))
    (map-reverse (λ (e : Place × Entry). under c.args.delete e.1) all
    ∙ ap reverse (map_map (λ (e : Place × Entry). e.1) (under c.args.delete) all))
