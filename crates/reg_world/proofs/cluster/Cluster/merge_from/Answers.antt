use Rattle.std.proofs.Common.{◌≡◌, ◌≢◌, ◌&&◌, ◌==◌, Some, None, slice_get, set, refl, sym, ap, ◌∙◌, rules}
use Rattle.reg_alike.specs.reg_floored.Floored.{Floored}
use Rattle.reg_world.specs.State.{State, has_node, set_at, taking}
use Rattle.reg_world.specs.declared.event.Event.TheVariants as events
use Rattle.reg_world.specs.declared.event.Outcome.TheVariants as outcomes
use Rattle.reg_world.proofs.Bools.{and-false, and-true}
use Rattle.reg_world.proofs.Floors.{one_floor, two_floors}
use Rattle.reg_world.proofs.Steps.{a_node, allowed, differing, no_node, node-done, not_allowed, set_there}
use Rattle.reg_world.proofs.cluster.Cluster.merge_from.Goals as goal

pub returns-in_default-clause-happens : goal.returns-in_default-clause-happens
returns-in_default-clause-happens c =
    let s = c.args.self.now in
    let none : slice_get s.nodes c.args.node ≡ None = search rules in
    not_allowed s s (events.MergeFrom c.args.node c.args.other) (ap (λ b. b && has_node s c.args.other) (no_node s c.args.node none)) refl

pub returns-in_default-node-clause-happens : goal.returns-in_default-node-clause-happens
returns-in_default-node-clause-happens c =
    let s = c.args.self.now in
    let there : slice_get s.nodes c.args.node ≡ Some c.in-Some.taker.now = search rules in
    let none : slice_get s.nodes c.args.other ≡ None = search rules in
    not_allowed s s (events.MergeFrom c.args.node c.args.other)
    (and-false (a_node s c.args.node _ there) (no_node s c.args.other none)) refl

pub returns-then-floor-clause-happens : goal.returns-then-floor-clause-happens
returns-then-floor-clause-happens c =
    let s = c.args.self.now in
    let taker = c.in-Some.taker.now in
    let giver = c.in-Some-node.giver.now in
    let there : slice_get s.nodes c.args.node ≡ Some taker = search rules in
    let here : slice_get s.nodes c.args.other ≡ Some giver = search rules in
    let other : taker.set.floor ≢ (set_at s c.args.other).floor = λ e.
    c.if-floor.true (
    c.floor.ensures ∙ e ∙ ap (λ (x : Floored). x.floor) (set_there s c.args.other giver here) ∙ sym c.floor-2.ensures) in
    differing s s (events.MergeFrom c.args.node c.args.other)
    (and-true (a_node s c.args.node taker there) (a_node s c.args.other giver here)) (two_floors s c.args.node taker _ there other) refl

pub returns-clause-happens : goal.returns-clause-happens
returns-clause-happens c =
    let s = c.args.self.now in
    let taker = c.in-Some.taker.now in
    let giver = c.in-Some-node.giver.now in
    let there : slice_get s.nodes c.args.node ≡ Some taker = search rules in
    let here : slice_get s.nodes c.args.other ≡ Some giver = search rules in
    let gives = set_there s c.args.other giver here in
    let same : taker.set.floor ≡ (set_at s c.args.other).floor =
    sym c.floor.ensures ∙ c.if-floor.false ∙ c.floor-2.ensures ∙ sym (ap (λ (x : Floored). x.floor) gives) in
    let more = c.set.ensures ∙ sym (ap (λ (x : Floored). x.records) gives) in
    let written = ap
    (λ (w : State).
    record { base = w.base; items = w.items; unsettled = w.unsettled; nodes = set w.nodes c.args.node c.in_ok-taker.taker })
    c.self.view_is in
    allowed s _ (events.MergeFrom c.args.node c.args.other) outcomes.Done
    (and-true (a_node s c.args.node taker there) (a_node s c.args.other giver here)) (one_floor s c.args.node taker _ there same) (
      refl,
      node-done s _ (taking (set_at s c.args.other).records) c.args.node taker c.in_ok-taker.taker there
          (c.in_ok-taker.ensures ∙ ap (λ m. taking m taker) more) written,
    )
