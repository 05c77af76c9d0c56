use Rattle.std.proofs.Common.{◌≡◌, ap, subst, ◌∙◌}
use Rattle.std.proofs.lemmas.Result.{IfOk-weaker}
use Rattle.std.specs.FinMap as finmap
use Rattle.reg_alike.specs.reg_entries.EntryOrder.{Place}
use Rattle.reg_world.specs.Eager.{IsFoldedEagerly, eager, eager_after}
use Rattle.reg_world.specs.Runs.{After}
use Rattle.reg_world.specs.State.{State}
use Rattle.reg_world.proofs.EagerWorld.{eager_values, right_values}
use Rattle.reg_world.proofs.world.World.eager_entries.Goals as goal

pub returns-clause-eager : goal.returns-clause-eager
returns-clause-eager c =
    let w = c.args.self.now in
    let led = c.self.invariant in
    let itself = c.compactions_compose.ensures.itself in
    let folded : IsFoldedEagerly w = c.eager_folding_is_right.ensures led.0 w (subst (After led.0) c.self.view_is led.1) in
    let base = c.base.ensures ∙ ap (λ (s : State). s.base) c.self.view_is in
    let items = c.items.ensures ∙ ap (λ (s : State). s.items) c.self.view_is in
    let stands : (p : Place) → finmap.get c.in_ok-standing.standing p ≡ eager w p =
    λ p. c.in_ok-standing.ensures p ∙ (λ i. eager_after (base i) (items i) p) in
    IfOk-weaker c.listed.result _ _ (λ found is.
    eager_values w itself folded c.entries_are_of_places.ensures.stand found.items
    (is ∙ right_values w itself folded c.in_ok-standing.standing stands)) c.listed.ensures

pub returns-clause-right : goal.returns-clause-right
returns-clause-right c =
    let w = c.args.self.now in
    let led = c.self.invariant in
    let itself = c.compactions_compose.ensures.itself in
    let folded : IsFoldedEagerly w = c.eager_folding_is_right.ensures led.0 w (subst (After led.0) c.self.view_is led.1) in
    let base = c.base.ensures ∙ ap (λ (s : State). s.base) c.self.view_is in
    let items = c.items.ensures ∙ ap (λ (s : State). s.items) c.self.view_is in
    let stands : (p : Place) → finmap.get c.in_ok-standing.standing p ≡ eager w p =
    λ p. c.in_ok-standing.ensures p ∙ (λ i. eager_after (base i) (items i) p) in
    IfOk-weaker c.listed.result _ _ (λ found is. is ∙ right_values w itself folded c.in_ok-standing.standing stands) c.listed.ensures
