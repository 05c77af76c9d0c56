use Rattle.std.proofs.Common.{◌≡◌, Some, None, slice_get, set, refl, ap, rules}
use Rattle.reg_world.specs.State.{State, compacted}
use Rattle.reg_world.specs.declared.event.Event.TheVariants as events
use Rattle.reg_world.specs.declared.event.Outcome.TheVariants as outcomes
use Rattle.reg_world.proofs.Steps.{a_node, allowed, no_node, node-done, not_allowed}
use Rattle.reg_world.proofs.cluster.Cluster.compact_node.Goals as goal

pub returns-in_default-clause-happens : goal.returns-in_default-clause-happens
returns-in_default-clause-happens c =
    let s = c.args.self.now in
    let none : slice_get s.nodes c.args.node ≡ None = search rules in
    not_allowed s s (events.CompactNode c.args.node) (no_node s c.args.node none) refl

pub returns-clause-happens : goal.returns-clause-happens
returns-clause-happens c =
    let s = c.args.self.now in
    let there : slice_get s.nodes c.args.node ≡ Some c.in-Some.found.now = search rules in
    let written = ap
    (λ (w : State).
    record { base = w.base; items = w.items; unsettled = w.unsettled; nodes = set w.nodes c.args.node c.in_ok-compacted.compacted })
    c.self.view_is in
    allowed s _ (events.CompactNode c.args.node) outcomes.Done (a_node s c.args.node c.in-Some.found.now there) refl
    (refl, node-done s _ compacted c.args.node c.in-Some.found.now c.in_ok-compacted.compacted there c.in_ok-compacted.ensures written)
