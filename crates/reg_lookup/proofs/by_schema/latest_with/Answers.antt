use Rattle.std.proofs.Common.{ap, map, reverse, sym, ◌∙◌, rules}
use Rattle.std.proofs.lemmas.Iterator.Adapters.{YieldsList-from_rev_slice, option_map_id}
use Rattle.std.proofs.lemmas.Iterator.Consumers.{YieldsList-from_copied}
use Rattle.std.proofs.lemmas.Iterator.Search.{find_from_yields_List}
use Rattle.std.specs.List.{find}
use Rattle.std.specs.Option.{option_copied}
use Rattle.std.specs.Prelude.{bytes_eq}
use Rattle.reg_lookup.proofs.Latest.{find_greatest, find-map, map_reverse}
use Rattle.reg_lookup.proofs.by_schema.latest_with.Goals as goal
use borrow.Author.Tests.{tests}

pub returns : goal.returns
returns c =
    let normal = c.args.normal.now in
    let found = find_from_yields_List (λ e. bytes_eq e.now.normal normal) _ _ c.find.result c.find.ensures.ran
    (YieldsList-from_copied (YieldsList-from_rev_slice c.args.entries.now (cc))) (λ x b q k. search (rules, tests)) in
    ap option_copied (sym (option_map_id c.find.result) ∙ found)
    ∙ find-map (λ e. e.now) (λ e. bytes_eq e.normal normal) (reverse c.args.entries.now)
    ∙ ap (find (λ e. bytes_eq e.normal normal)) (map_reverse (λ e. e.now) c.args.entries.now)
    ∙ find_greatest (λ e. e.version) (λ e. bytes_eq e.normal normal) (map (λ e. e.now) c.args.entries.now) c.requires
