use Rattle.std.proofs.Common.{◌≡◌, IfOk, Some, None, cond, List, ℕ, bytes_eq, subst}
use Rattle.std.proofs.lemmas.List.{map-id}
use Rattle.avro_schema.specs.Names.{all_distinct}
use Rattle.avro_schema.proofs.ListedOnce.{listed_once}
use Rattle.avro_schema.proofs.symbols.distinct_symbols.Goals as goal

pub returns : goal.returns
returns c =
    let ss = c.args.symbols.items in
    listed_once (all_distinct bytes_eq ss) ss c.of.result
    (subst (λ (names : List (List ℕ)). IfOk c.of.result (λ o. o ≡ cond (all_distinct bytes_eq names) (Some ss) None))
    (map-id ss) c.of.ensures)
