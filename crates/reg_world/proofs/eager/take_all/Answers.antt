use Rattle.std.proofs.Common.{refl}
use Rattle.reg_world.proofs.EagerMaps.{records_all, records_more}
use Rattle.reg_world.proofs.eager.take_all.Goals as goal

pub loop-given-init : goal.loop-given-init
loop-given-init c = λ p. refl

pub loop-given-preserved : goal.loop-given-preserved
loop-given-preserved c =
    let l = c.loop-given in
    records_more c.args.standing.now l.standing c.take_one.new.standing c.args.records.now l.given-index
    c.given-item.result c.loop-given-test.true c.given-item.is l.invariant c.in_ok-take_one.ensures

pub returns : goal.returns
returns c =
    records_all c.args.standing.now c.loop-given.standing c.args.records.now
    c.loop-given.given-index c.loop-given-test.false c.loop-given.invariant
