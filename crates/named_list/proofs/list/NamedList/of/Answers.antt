use Rattle.std.proofs.Common.{◌≡◌, ◌<◌, ◌%◌, length, get_or, Some, None, false, MatchOption, if◌then◌else◌, map, bytes_eq, ap, sym, subst}
use Rattle.named_list.specs.Distinct.{all_distinct}
use Rattle.std.specs.List.{All}
use Rattle.named_list.specs.Index.{Place, IsIndex}
use Rattle.named_list.specs.Slots.{HaveSlots}
use Rattle.named_list.proofs.Ordered.{all_distinct-from_index}
use Rattle.named_list.proofs.Slotted.{marked_by}
use Rattle.named_list.proofs.list.NamedList.of.Given.{Over}
use Rattle.named_list.proofs.list.NamedList.of.Goals as goal
use Rattle.named_list.proofs.list.NamedList.of.Goals.{In_ok-slots}

module _ (g : Over) (c : In_ok-slots g) where
  index : IsIndex (map g.T.Named.name c.args.items.items) c.in-Some.by_hash.items
  index =
      let found = subst (λ o.
      MatchOption o (all_distinct bytes_eq (map g.T.Named.name c.as_slice-2.result.now) ≡ false)
      (λ places. IsIndex (map g.T.Named.name c.as_slice-2.result.now) places.items)) c.in-Some.is c.in_ok-by_hash.ensures in
      subst (λ items. IsIndex (map g.T.Named.name items) c.in-Some.by_hash.items) c.as_slice-2.ensures.value found

  marked : HaveSlots c.in_ok-slots.slots.items (map g.T.Named.name c.args.items.items)
  marked =
      marked_by c.in_ok-slots.slots.items (map g.T.Named.name c.args.items.items) c.in-Some.by_hash.items index
      (subst (All (λ (p : Place). 0 < get_or c.in_ok-slots.slots.items (p.0 % length c.in_ok-slots.slots.items) 0))
      c.as_slice-3.ensures.value c.in_ok-slots.ensures)

pub invariant_of-result-2 : goal.invariant_of-result-2
invariant_of-result-2 g c = (all_distinct-from_index _ _ (index g c), λ some. (index g c, marked g c))

pub returns : goal.returns
returns g c =
    ap (λ b. if b then Some c.args.items.items else None) (sym (all_distinct-from_index _ _ (index g c)))
