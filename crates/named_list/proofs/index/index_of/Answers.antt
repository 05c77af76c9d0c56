use Rattle.std.proofs.Common.{◌≡◌, false, map, bytes_eq, ap, sym, ◌∙◌}
use Rattle.named_list.specs.Distinct.{all_distinct}
use Rattle.named_list.specs.Index.{IsIndex, IsOrderOf, names_of}
use Rattle.named_list.proofs.Ordered.{answered, index_is}
use Rattle.named_list.proofs.index.index_of.Goals as goal

pub returns : goal.returns
returns g c =
    let names = map g.T.Named.name c.args.items.now in
    let entries = c.in_ok-entries.entries.items in
    let same = c.in_ok-entries.ensures.names in
    answered (all_distinct bytes_eq (names_of entries) ≡ false) (all_distinct bytes_eq names ≡ false)
    (λ v. IsOrderOf entries v.items) (λ v. IsIndex names v.items)
    (λ h. ap (all_distinct bytes_eq) (sym same) ∙ h) (λ v h.
    index_is names entries v.items same c.in_ok-entries.ensures.placed c.in_ok-entries.ensures.hashed h) c.places_in_order.result c.places_in_order.ensures
