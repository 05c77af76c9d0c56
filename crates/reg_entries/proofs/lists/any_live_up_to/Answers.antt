use Rattle.std.proofs.Common.{◌≡◌, false, map, reverse, sym, ap, ◌∙◌, rules, tests}
use Rattle.std.proofs.lemmas.Iterator.{YieldsList-from_map_by}
use Rattle.std.proofs.lemmas.Iterator.Consumers.{YieldsList-at}
use Rattle.std.proofs.lemmas.Iterator.Search.{find_from_yields_List}
use Rattle.std.specs.BTreeMap.{get_by_text}
use Rattle.std.specs.BTreeMap.Range.{entries_between}
use Rattle.std.specs.List.{find}
use Rattle.std.specs.Map.{values_of}
use Rattle.std.specs.Map.Iter.{deref_pair}
use Rattle.std.specs.Option.{option_copied, option_map_or}
use Rattle.std.specs.declared.ops.Bound.TheVariants.{Included, Unbounded}
use Rattle.reg_entries.specs.Covered.{under}
use Rattle.reg_entries.specs.EntryOrder.{Place, place_cmp}
use Rattle.reg_entries.specs.declared.entry.Entry.{Entry}
use Rattle.reg_entries.proofs.Found.{map_map}
use Rattle.reg_entries.proofs.Latest.{YieldsList-from_last, map-reverse}
use Rattle.reg_entries.proofs.Live.{is_of, stops}
use Rattle.reg_entries.proofs.Shown.{live_shown}
use Rattle.reg_entries.proofs.lists.any_live_up_to.Goals as goal

pub returns-in-Some : goal.returns-in-Some
returns-in-Some c =
    let p = c.args.top.now in
    let d = c.delete_of-delete.result in
    let m = c.args.entries.now in
    let all = entries_between place_cmp Unbounded (Included p) m.entries in
    let backward =
    YieldsList-at c.map.ensures.source (YieldsList-from_last deref_pair all (c.rev.ensures.source ∙ c.range.ensures.between tt)) in
    let found : option_copied c.find-found.result ≡ find (stops p.0) (reverse (map (under d) (values_of all))) =
    find_from_yields_List (stops p.0) _ _ c.find-found.result c.find-found.ensures.ran
    (YieldsList-from_map_by _ (λ e. e.now) (λ (e : Place × Entry). under d e.1) backward c.map.ensures.closure (λ x r q k. search rules))
    (λ x b q k. search (rules, tests))
    ∙ ap (find (stops p.0))
    (map-reverse (λ (e : Place × Entry). under d e.1) all ∙ ap reverse (map_map (λ (e : Place × Entry). e.1) (under d) all)) in
    let same : c.as_str.result.now ≡ p.0 = search rules in
    let delete : d ≡ get_by_text c.args.deletes.now p.0 = c.delete_of-delete.ensures ∙ ap (get_by_text c.args.deletes.now) same in
    c.eq.ensures
    ∙ ap (λ o. option_map_or (is_of p.0) (option_copied o) false) (sym c.in-Some.is)
    ∙ ap (λ o. option_map_or (is_of p.0) o false) found
    ∙ ap (λ o. option_map_or (is_of p.0) (find (stops p.0) (reverse (map (under o) (values_of all)))) false) delete
    ∙ live_shown c.args.deletes.now m c.requires.ordered c.requires.placed p c.requires.top

pub returns-in-None : goal.returns-in-None
returns-in-None c =
    let p = c.args.top.now in
    let d = c.delete_of-delete.result in
    let m = c.args.entries.now in
    let all = entries_between place_cmp Unbounded (Included p) m.entries in
    let backward =
    YieldsList-at c.map.ensures.source (YieldsList-from_last deref_pair all (c.rev.ensures.source ∙ c.range.ensures.between tt)) in
    let found : option_copied c.find-found.result ≡ find (stops p.0) (reverse (map (under d) (values_of all))) =
    find_from_yields_List (stops p.0) _ _ c.find-found.result c.find-found.ensures.ran
    (YieldsList-from_map_by _ (λ e. e.now) (λ (e : Place × Entry). under d e.1) backward c.map.ensures.closure (λ x r q k. search rules))
    (λ x b q k. search (rules, tests))
    ∙ ap (find (stops p.0))
    (map-reverse (λ (e : Place × Entry). under d e.1) all ∙ ap reverse (map_map (λ (e : Place × Entry). e.1) (under d) all)) in
    let same : c.as_str.result.now ≡ p.0 = search rules in
    let delete : d ≡ get_by_text c.args.deletes.now p.0 = c.delete_of-delete.ensures ∙ ap (get_by_text c.args.deletes.now) same in
    ap (λ o. option_map_or (is_of p.0) (option_copied o) false) (sym c.in-None.is)
    ∙ ap (λ o. option_map_or (is_of p.0) o false) found
    ∙ ap (λ o. option_map_or (is_of p.0) (find (stops p.0) (reverse (map (under o) (values_of all)))) false) delete
    ∙ live_shown c.args.deletes.now m c.requires.ordered c.requires.placed p c.requires.top
