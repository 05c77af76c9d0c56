use Rattle.std.proofs.Common.{◌<◌, [], map, length, bytes_eq, ap, sym, subst, ◌∙◌, arith}
use Rattle.std.proofs.lemmas.List.{get_or-map, length-map}
use Rattle.named_list.proofs.Places.{position-map, named_here}
use Rattle.named_list.proofs.slots.is_named.Goals as goal

pub returns : goal.returns
returns g c =
    let name = g.T.Named.name in
    let s = c.args.name.now in
    let items = c.args.items.now in
    let inside : c.args.place < length items = omega arith in
    let within : c.args.place < length (map name items) = subst (λ n. c.args.place < n) (sym (length-map items name)) inside in
    let item = get_or-map name items c.args.place c.index-items-place.result [] inside ∙ ap name (sym c.index-items-place.is) in
    λ same. sym (position-map (λ n. bytes_eq n s) name items)
    ∙ named_here s (map name items) c.args.place c.requires.distinct within
    (ap (λ n. bytes_eq n s) (item ∙ sym c.name.ensures ∙ sym c.as_str.ensures) ∙ sym c.eq.ensures ∙ same)
