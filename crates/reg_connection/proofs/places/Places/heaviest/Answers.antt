use Rattle.std.proofs.Common.{arith}
use Rattle.reg_connection.proofs.Chosen.{heaviest-all}
use Rattle.reg_connection.proofs.places.Places.heaviest.Goals as goal

pub returns : goal.returns
returns g c =
    heaviest-all c.loop-at.at c.args.self.now.places c.loop-at.heaviest c.place_of.result
    (omega (arith, c.loop-at-test.false, c.len-at-end.ensures)) c.place_of.ensures c.loop-at.invariant
