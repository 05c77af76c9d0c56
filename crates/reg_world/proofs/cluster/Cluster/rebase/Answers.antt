use Rattle.std.proofs.Common.{◌≡◌, ◌<◌, Some, None, length, option_map, slice_get, set, refl, sym, ap, subst, ◌∙◌, rules, arith}
use Rattle.reg_world.specs.State.{State, rebasing, topic_of}
use Rattle.reg_world.specs.declared.event.Event.TheVariants as events
use Rattle.reg_world.specs.declared.event.Outcome.TheVariants as outcomes
use Rattle.reg_world.proofs.Floors.{mapped_none, mapped_some, within}
use Rattle.reg_world.proofs.Steps.{a_node, allowed, no_node, node-done, not_allowed}
use Rattle.reg_world.proofs.cluster.Cluster.rebase.Goals as goal

pub returns-in_default-clause-happens : goal.returns-in_default-clause-happens
returns-in_default-clause-happens c =
    let s = c.args.self.now in
    let f = rebasing (topic_of s).kept in
    let none : c.in_ok-rebased.field-0 ≡ None = search rules in
    not_allowed s _ (events.Rebase c.args.node)
    (no_node s c.args.node (
    mapped_none f (slice_get s.nodes c.args.node) (sym c.in_ok-rebased.ensures.told ∙ none))) c.in_ok-rebased.ensures.same

pub index_mut-requires : goal.index_mut-requires
index_mut-requires c =
    let s = c.args.self.now in
    let f = rebasing (topic_of s).kept in
    let found = mapped_some f (slice_get s.nodes c.args.node) c.in-Some.rebased (sym c.in_ok-rebased.ensures.told ∙ c.in-Some.is) in
    let h : c.args.node < length c.self.inside.nodes.items = subst (λ (w : State). c.args.node < length w.nodes)
    (sym (c.self.view_is ∙ c.in_ok-rebased.ensures.same)) (within s.nodes c.args.node found.0 found.1) in
    let k = c.self.inside.nodes.ok.0 in
    omega (arith, h, k)

pub returns-clause-happens : goal.returns-clause-happens
returns-clause-happens c =
    let s = c.args.self.now in
    let f = rebasing (topic_of s).kept in
    let found = mapped_some f (slice_get s.nodes c.args.node) c.in-Some.rebased (sym c.in_ok-rebased.ensures.told ∙ c.in-Some.is) in
    let written = ap
    (λ (w : State).
    record { base = w.base; items = w.items; unsettled = w.unsettled; nodes = set w.nodes c.args.node c.in-Some.rebased })
    (c.self.view_is ∙ c.in_ok-rebased.ensures.same) in
    allowed s _ (events.Rebase c.args.node) outcomes.Done (a_node s c.args.node found.0 found.1) refl
    (refl, node-done s _ f c.args.node found.0 c.in-Some.rebased found.1 found.2 written)
