use Rattle.std.proofs.Common.{◌≡◌, subst}
use Rattle.std.proofs.lemmas.Result.{IfOk-weaker}
use Rattle.reg_world.specs.Happens.{Happens}
use Rattle.reg_world.specs.State.{State}
use Rattle.reg_world.specs.declared.event.Event.TheVariants as events
use Rattle.reg_world.proofs.Floors.{compacts_at}
use Rattle.reg_world.proofs.cluster.Cluster.compact.Goals as goal

pub returns-clause-happens : goal.returns-clause-happens
returns-clause-happens c =
    let s = c.args.self.now in
    let t = c.compact_to.new.self in
    let floor = c.in_ok-floor.floor in
    let dropped = c.args.dropped.now in
    IfOk-weaker c.compact_to.result _ _ (λ o h.
    compacts_at c.lawful_items_follow.ensures.in_turn s t floor dropped o c.in_ok-floor.ensures.told
    (subst (λ (w : State). Happens w (events.CompactTo floor dropped) o t) c.in_ok-floor.ensures.same h)) c.compact_to.ensures.happens
