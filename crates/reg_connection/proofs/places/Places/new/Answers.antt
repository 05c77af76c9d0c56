use Rattle.std.proofs.Common.{◌≡◌, arith, refl}
use Rattle.reg_connection.proofs.places.Places.new.Goals as goal

pub returns : goal.returns
returns g c =
    let ended : c.loop.counter ≡ c.args.places = omega (arith, c.loop.auto.counter-end, c.loop-test.false) in
    rw (c.loop.invariant.places, c.loop.invariant.weights, ended) refl
