-- What the middle name settles about the names on its side.
use Rattle.std.proofs.Common.{◌+◌, ◌-◌, ◌/◌, ◌<◌, ℕ, List, length, map, get_or, bytes_eq, ⊎_elim, sym, ◌∙◌, arith}
use Rattle.std.proofs.lemmas.Bool.{cases_lt}
use Rattle.named_list.proofs.Places.{position-map, named_at, none_below, none_above, absent}
use Rattle.named_list.proofs.lookup.place_in_order.Goals as goal

pub loop-low-preserved-in-Less : goal.loop-low-preserved-in-Less
loop-low-preserved-in-Less g c =
    let middle = c.loop-low.low + (c.loop-low.high - c.loop-low.low) / 2 in
    let below : middle < c.loop-low.high = omega arith in
    let within : middle < length c.args.by_hash.now = omega arith in
    let names = map g.T.Named.name c.args.items.now in
    let less = sym c.compare_at.ensures ∙ c.in-Less.is in
    record {
      in_turn = omega arith;
      within = c.loop-low.invariant.within;
      below = λ k d h. none_below c.args.name.now names c.args.by_hash.now c.requires.index middle within d less k h;
      above = c.loop-low.invariant.above;
    }

pub loop-low-preserved : goal.loop-low-preserved
loop-low-preserved g c =
    let middle = c.loop-low.low + (c.loop-low.high - c.loop-low.low) / 2 in
    let below : middle < c.loop-low.high = omega arith in
    let within : middle < length c.args.by_hash.now = omega arith in
    let names = map g.T.Named.name c.args.items.now in
    let greater = sym c.compare_at.ensures ∙ c.in-Greater.is in
    record {
      in_turn = omega arith;
      within = omega arith;
      below = c.loop-low.invariant.below;
      above = λ k d h inside. none_above c.args.name.now names c.args.by_hash.now c.requires.index middle within d greater k h inside;
    }

pub returns-in-Equal : goal.returns-in-Equal
returns-in-Equal g c =
    let s = c.args.name.now in
    let name = g.T.Named.name in
    let items = c.args.items.now in
    let middle = c.loop-low.low + (c.loop-low.high - c.loop-low.low) / 2 in
    let below : middle < c.loop-low.high = omega arith in
    let within : middle < length c.args.by_hash.now = omega arith in
    let place = (get_or c.args.by_hash.now middle (0, 0)).1 in
    sym (
    named_at s (map name items) place c.requires.distinct
    (c.requires.index.within middle (0, 0) within) (sym c.compare_at.ensures ∙ c.in-Equal.is))
    ∙ position-map (λ n. bytes_eq n s) name items

pub returns : goal.returns
returns g c =
    let s = c.args.name.now in
    let name = g.T.Named.name in
    let items = c.args.items.now in
    let none = λ (k : ℕ) (d : List ℕ) (h : k < length c.args.by_hash.now).
    ⊎_elim (λ lt. c.loop-low.invariant.below k d lt) (λ le. c.loop-low.invariant.above k d (omega arith) h) (cases_lt k c.loop-low.low) in
    sym (absent s (map name items) c.args.by_hash.now c.requires.index none) ∙ position-map (λ n. bytes_eq n s) name items
