use Rattle.std.proofs.Common.{◌<◌, ◌≤◌, ◌%◌, length, get_or, ⊎_elim, sym, ap, ◌∙◌, arith}
use Rattle.std.proofs.Math.Nat.{eq-or-lt_of_le}
use Rattle.std.proofs.lemmas.List.{get_or_default, length-set}
use Rattle.named_list.specs.Index.{Place}
use Rattle.named_list.proofs.Slotted.{kept, put}
use Rattle.named_list.proofs.slots.slots_of.Goals as goal

pub loop-entry-preserved : goal.loop-entry-preserved
loop-entry-preserved c =
    let slots = c.loop-entry.slots.items in
    let slot = c.slot_of-slot.result in
    let v = c.slot_at.result in
    let count = c.saturating_add-count.result in
    let entries = c.args.by_hash.now in
    let place = c.loop-entry.entry-index in
    let within : slot < length slots = omega arith in
    record {
      long = length-set slots slot v ∙ c.loop-entry.invariant.long;
      some = λ k d h.
          let le : k ≤ place = omega (arith, h) in
          ⊎_elim
          (λ e.
          put slots slot v within c.slot_at.ensures ((get_or entries k d).0 % count)
          (ap (λ (n : Place). n.0 % count) (ap (λ j. get_or entries j d) e ∙ get_or_default entries place d (0, 0) c.loop-entry-test.true)
          ∙ sym c.slot_of-slot.ensures.is))
          (λ lt.
          kept slots slot v within c.slot_at.ensures
          ((get_or entries k d).0 % count) (c.loop-entry.invariant.some k d lt))
          (eq-or-lt_of_le le);
    }
