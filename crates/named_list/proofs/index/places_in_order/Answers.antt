use Rattle.std.proofs.Common.{map, ap, ◌∙◌}
use Rattle.named_list.specs.Index.{place_of}
use Rattle.named_list.proofs.Ordered.{ordered, none_ordered}
use Rattle.named_list.proofs.index.places_in_order.Goals as goal

pub returns-then-not-do_differ : goal.returns-then-not-do_differ
returns-then-not-do_differ c =
    let sort = c.sort_unstable in
    none_ordered c.args.entries.items sort.new.self.items c.as_slice.result.now
    sort.ensures.permutation c.as_slice.ensures.value c.if-not-do_differ.ensures

pub returns : goal.returns
returns c =
    let sort = c.sort_unstable in
    ordered c.args.entries.items sort.new.self.items c.as_slice.result.now
    sort.ensures.permutation c.as_slice.ensures.value c.requires sort.ensures.sorted c.if-not-do_differ.ensures
    c.in_ok-places_of.field-0.items (c.in_ok-places_of.ensures ∙ ap (map place_of) c.as_slice-2.ensures.value)
