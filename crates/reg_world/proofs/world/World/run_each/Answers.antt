use Rattle.std.proofs.Common.{◌+◌, ◌++◌, ◌∷◌, [], length, take, refl, sym, ap, subst, ◌∙◌, arith}
use Rattle.std.proofs.lemmas.List.{length_push, take_all}
use Rattle.reg_world.specs.Runs.{IsStopped, Runs}
use Rattle.reg_world.proofs.Courses.{one_more, stops}
use Rattle.reg_world.proofs.world.World.run_each.Goals as goal

pub loop-event-init : goal.loop-event-init
loop-event-init c = record {
  counted = ap length c.new-outcomes.ensures.items;
  ran = subst (λ os. Runs c.args.self.now [] os c.args.self.now) (sym c.new-outcomes.ensures.items) refl;
}

pub loop-event-preserved : goal.loop-event-preserved
loop-event-preserved c =
    let l = c.loop-event in
    let s = c.args.self.now in
    let es = c.args.events.now in
    let kept = c.in-Ok-keep.ensures.kept in
    record {
      counted = ap length kept ∙ length_push l.outcomes.items c.in-Ok.outcome ∙ ap (λ k. k + 1) l.invariant.counted;
      ran = subst (λ os. Runs s (take (l.event-index + 1) es) os c.step.new.self) (sym kept)
          (one_more s l.self c.step.new.self es l.outcomes.items l.event-index c.event-item.result
          c.in-Ok.outcome c.loop-event-test.true c.event-item.is l.invariant.ran c.in-Ok.ensures.happens);
    }

pub returns-clause-runs : goal.returns-clause-runs
returns-clause-runs c =
    let l = c.loop-event in
    subst (λ es. Runs c.args.self.now es l.outcomes.items l.self)
    (take_all l.event-index c.args.events.now (omega (arith, c.loop-event-test.false))) l.invariant.ran

pub returns-in-Err-clause-refused : goal.returns-in-Err-clause-refused
returns-in-Err-clause-refused c =
    let l = c.loop-event in
    let s = c.args.self.now in
    let es = c.args.events.now in
    let run = one_more s l.self c.step.new.self es l.outcomes.items l.event-index c.event-item.result
    c.in-Ok.outcome c.loop-event-test.true c.event-item.is l.invariant.ran c.in-Ok.ensures.happens in
    subst (λ e. IsStopped s es e c.step.new.self) (sym c.in-Err.ensures.refused)
    (stops s c.step.new.self es (l.outcomes.items ++ c.in-Ok.outcome ∷ []) (l.event-index + 1) _
    (ap (λ k. k + 1) (sym l.invariant.counted)) (omega (arith, c.loop-event-test.true)) run)
