use Rattle.std.proofs.Common.{List, Ok, ℕ, bytes_eq, map, ap, ◌∙◌, rules, tests}
use Rattle.std.proofs.lemmas.Iterator.{YieldsList-from_map_by}
use Rattle.std.proofs.lemmas.Iterator.Consumers.{YieldsList-at, YieldsList-from_filter, YieldsList-from_rest, map_from_collect}
use Rattle.std.proofs.lemmas.List.Filters.{dedup_is}
use Rattle.std.specs.BTreeMap.{values}
use Rattle.std.specs.List.{dedup, filter}
use Rattle.reg_entries.specs.Covered.{shown}
use Rattle.reg_entries.specs.Sought.{counts}
use Rattle.reg_entries.specs.declared.entry.Entry.{Entry}
use Rattle.reg_entries.proofs.Found.{map-dedup, map_filter, map_map}
use Rattle.reg_entries.proofs.lists.list_subjects.Goals as goal
use denote.Ref.{Bor}

pub returns : goal.returns
returns c =
    let same = λ (s t : Bor (List ℕ)). bytes_eq s.now t.now in
    let found = c.in_ok-found.found.items in
    let deletes = c.args.deletes.now in
    let entries = values c.args.entries.now in
    let test = λ (e : Entry). counts c.args.deleted (shown deletes e) in
    let all = YieldsList-at c.filter.ensures.source (YieldsList-from_rest entries c.values.ensures.rest) in
    ap (map (λ s. s.now)) (dedup_is same found c.dedup.new.self.items c.dedup.ensures.filtered)
    ∙ map-dedup (λ (s : Bor (List ℕ)). s.now) bytes_eq found
    ∙ ap (dedup bytes_eq) (map_from_collect {E = Unit {0}} (Ok c.in_ok-found.found) c.in_ok-found.ensures.ran
    (YieldsList-from_map_by _ (λ s. s.now) (λ e. e.subject)
    (YieldsList-at c.map.ensures.source (YieldsList-from_filter _ test all c.filter.ensures.closure (λ x b q k. search (rules, tests))))
    c.map.ensures.closure (λ x r q k. search rules))
    ∙ map_map (shown deletes) (λ e. e.subject) (filter test entries)
    ∙ ap (map (λ e. e.subject)) (map_filter (shown deletes) (counts c.args.deleted) entries))
