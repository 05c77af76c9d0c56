use Rattle.std.proofs.Common.{◌≡◌, ◌<◌, ◌-◌, inl, inr, arith}
use Rattle.exposition.proofs.Numbers.{all_written, place_written}
use Rattle.exposition.proofs.number.push_places.Goals as goal

pub returns-then-rest-eq0 : goal.returns-then-rest-eq0
returns-then-rest-eq0 c =
    let none : c.loop-place.rest ≡ 0 = omega arith in
    all_written (6 - c.loop-place._place) c.loop-place.rest c.loop-place.out.items _ c.loop-place.invariant.1 (inl none)

pub loop-place-preserved : goal.loop-place-preserved
loop-place-preserved c =
    let some : 0 < c.loop-place.rest = omega arith in
    let here : c.loop-place._place < 6 = omega arith in (
      omega arith,
      place_written c.loop-place._place c.loop-place.rest c.loop-place.out.items c.push.new.self.items _ here some
          c.loop-place.invariant.1 c.in_ok-push.ensures.items,
    )

pub returns : goal.returns
returns c =
    let none : 6 - c.loop-place._place ≡ 0 = omega arith in
    all_written (6 - c.loop-place._place) c.loop-place.rest c.loop-place.out.items _ c.loop-place.invariant.1 (inr none)
