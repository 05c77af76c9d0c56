use Rattle.reg_world.proofs.EagerMaps.{items_all, items_more}
use Rattle.reg_world.proofs.eager.fold_eagerly.Goals as goal

pub loop-item-init : goal.loop-item-init
loop-item-init c = c.in_ok-standing.ensures

pub loop-item-preserved : goal.loop-item-preserved
loop-item-preserved c =
    let l = c.loop-item in
    items_more c.args.base.now c.args.items.now l.item-index c.item-item.result l.standing
    c.take_item.new.standing c.loop-item-test.true c.item-item.is l.invariant c.in_ok-take_item.ensures

pub returns : goal.returns
returns c =
    items_all c.args.base.now c.args.items.now c.loop-item.item-index c.loop-item.standing c.loop-item-test.false c.loop-item.invariant
