use Rattle.std.proofs.Common.{◌≡◌, ◌%◌, length, map, get_or, bytes_eq, sym, ap, ◌∙◌, arith}
use Rattle.named_list.specs.Slots.{hash_from}
use Rattle.named_list.proofs.Places.{position-map}
use Rattle.named_list.proofs.Slotted.{unslotted}
use Rattle.named_list.proofs.slots.place_by_slot.Goals as goal

pub returns-then-place-eq0 : goal.returns-then-place-eq0
returns-then-place-eq0 g c =
    let s = c.args.name.now in
    let name = g.T.Named.name in
    let items = c.args.items.now in
    let empty : get_or c.args.slots.now c.slot_of.result 0 ≡ 0 = omega arith in
    let slot = sym (c.slot_of.ensures.is ∙ ap (λ h. h % length c.args.slots.now) (c.hash_of-hash.ensures ∙ ap (hash_from 0) c.as_bytes.ensures.value)) in
    let at = ap (λ k. get_or c.args.slots.now k 0) slot ∙ empty in
    sym (unslotted c.args.slots.now (map name items) c.requires.slots s at) ∙ position-map (λ n. bytes_eq n s) name items
