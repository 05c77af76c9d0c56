-- The first name is none of the others, or it is one of them.
use Rattle.std.proofs.Common.{◌-◌, not, ◌&&◌, map, length, take, drop, bytes_eq, ap, ◌∙◌, sym}
use Rattle.std.specs.List.{list_any}
use Rattle.named_list.specs.Distinct.{all_distinct}
use Rattle.named_list.proofs.Distinct.{all_distinct-first}
use Rattle.named_list.proofs.lookup.+are_distinct.Goals as goal

pub returns-then-not-has_name : goal.returns-then-not-has_name
returns-then-not-has_name g t c =
    let name = g.T.Named.name in
    let rest = take (length c.args.items.now - 1) (drop 1 c.args.items.now) in
    let none = ap (λ n. list_any (λ y. bytes_eq n (name y)) rest) (sym c.name.ensures) ∙ sym c.has_name.ensures ∙ c.if-not-has_name.true in
    c.are_distinct.ensures
    ∙ sym (all_distinct-first name c.args.items.now c.first-item.result c.in-len1-up.len_at_least c.first-item.is
    ∙ ap (λ b. not b && all_distinct bytes_eq (map name rest)) none)

pub returns-else-not-has_name : goal.returns-else-not-has_name
returns-else-not-has_name g t c =
    let name = g.T.Named.name in
    let rest = take (length c.args.items.now - 1) (drop 1 c.args.items.now) in
    let one = ap (λ n. list_any (λ y. bytes_eq n (name y)) rest) (sym c.name.ensures) ∙ sym c.has_name.ensures ∙ c.if-not-has_name.false in
    ap not c.if-not-has_name.false
    ∙ sym (all_distinct-first name c.args.items.now c.first-item.result c.in-len1-up.len_at_least c.first-item.is
    ∙ ap (λ b. not b && all_distinct bytes_eq (map name rest)) one)
