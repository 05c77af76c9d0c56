use Rattle.std.proofs.Common.{◌≡◌, ◌↔◌, false, true, IfOk, subst}
use Rattle.std.proofs.lemmas.Result.{IfOk-weaker}
use Rattle.reg_world.specs.Happens.{floors_agree, is_allowed}
use Rattle.reg_world.specs.Headline.{IsReached}
use Rattle.reg_world.specs.declared.event.Outcome.TheVariants as outcomes
use Rattle.reg_world.proofs.Courses.{reached_after}
use Rattle.reg_world.proofs.world.World.step.Goals as goal

pub returns-clause-not_allowed : goal.returns-clause-not_allowed
returns-clause-not_allowed c =
    subst (λ s. IfOk c.step.result (λ o. (o ≡ outcomes.NotAllowed) ↔ (is_allowed s c.args.event.now ≡ false))) c.self.view_is
    (IfOk-weaker c.step.result _ _ (λ o h.
    (c.events_are_refused_exactly.ensures c.self.inside.cluster c.step.new.self
    c.args.event.now o h).not_allowed) c.step.ensures.happens)

pub returns-clause-floors_differ : goal.returns-clause-floors_differ
returns-clause-floors_differ c =
    subst (λ s. IfOk c.step.result (λ o.
    (o ≡ outcomes.FloorsDiffer) ↔ ((is_allowed s c.args.event.now ≡ true) × (floors_agree s c.args.event.now ≡ false)))) c.self.view_is
    (IfOk-weaker c.step.result _ _ (λ o h.
    (c.events_are_refused_exactly.ensures c.self.inside.cluster c.step.new.self
    c.args.event.now o h).floors_differ) c.step.ensures.happens)

pub invariant_of-self : goal.invariant_of-self
invariant_of-self c =
    reached_after c.self.inside.cluster c.step.new.self c.args.event.now
    c.step.result c.step.ensures.happens c.step.ensures.refused c.self.invariant

pub returns-clause-keeps : goal.returns-clause-keeps
returns-clause-keeps c =
    let t = c.step.new.self in
    let led : IsReached t = reached_after c.self.inside.cluster t c.args.event.now
    c.step.result c.step.ensures.happens c.step.ensures.refused c.self.invariant in
    c.worlds_keep_the_headline.ensures led.0 t led.1
