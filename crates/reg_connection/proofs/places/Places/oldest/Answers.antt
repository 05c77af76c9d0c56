use Rattle.std.proofs.Common.{arith}
use Rattle.reg_connection.proofs.Chosen.{oldest-all}
use Rattle.reg_connection.proofs.places.Places.oldest.Goals as goal

pub returns : goal.returns
returns g c =
    oldest-all c.loop-at.at c.args.by c.args.self.now.places c.loop-at.oldest c.place_of.result
    (omega (arith, c.loop-at-test.false, c.len-at-end.ensures)) c.place_of.ensures c.loop-at.invariant
