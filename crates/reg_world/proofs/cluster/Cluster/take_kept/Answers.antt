use Rattle.std.proofs.Common.{◌≡◌, ◌≢◌, ◌&&◌, Some, None, slice_get, set, refl, sym, ap, ◌∙◌, rules}
use Rattle.std.specs.FinSet.{contains, from_list}
use Rattle.std.specs.List.{list_all}
use Rattle.reg_alike.specs.reg_set.RecordOrder.{record_cmp}
use Rattle.reg_world.specs.State.{State, taking, topic_of}
use Rattle.reg_world.specs.declared.event.Event.TheVariants as events
use Rattle.reg_world.specs.declared.event.Outcome.TheVariants as outcomes
use Rattle.reg_world.proofs.Bools.{and-true}
use Rattle.reg_world.proofs.Floors.{one_floor, two_floors}
use Rattle.reg_world.proofs.Steps.{a_node, allowed, differing, no_node, node-done, not_allowed}
use Rattle.reg_world.proofs.cluster.Cluster.take_kept.Goals as goal

pub returns-in_default-clause-happens : goal.returns-in_default-clause-happens
returns-in_default-clause-happens c =
    let s = c.args.self.now in
    let none : slice_get s.nodes c.args.node ≡ None = search rules in
    not_allowed s s (events.Take c.args.node c.args.records.now)
    (ap (λ b. b && list_all (contains (topic_of s).kept.records) c.args.records.now) (no_node s c.args.node none)) refl

pub returns-then-floor-clause-happens : goal.returns-then-floor-clause-happens
returns-then-floor-clause-happens c =
    let s = c.args.self.now in
    let taker = c.in-Some.taker.now in
    let there : slice_get s.nodes c.args.node ≡ Some taker = search rules in
    let other : taker.set.floor ≢ (topic_of s).kept.floor = λ e. c.if-floor.true (c.floor.ensures ∙ e ∙ sym c.requires.1) in
    differing s s (events.Take c.args.node c.args.records.now)
    (and-true (a_node s c.args.node taker there) c.requires.0) (two_floors s c.args.node taker _ there other) refl

pub returns-clause-happens : goal.returns-clause-happens
returns-clause-happens c =
    let s = c.args.self.now in
    let taker = c.in-Some.taker.now in
    let there : slice_get s.nodes c.args.node ≡ Some taker = search rules in
    let written = ap
    (λ (w : State).
    record { base = w.base; items = w.items; unsettled = w.unsettled; nodes = set w.nodes c.args.node c.in_ok-taker.taker })
    c.self.view_is in
    let more = c.in_ok-more.ensures ∙ ap (from_list {R = record_cmp}) c.as_slice.ensures in
    let same : taker.set.floor ≡ (topic_of s).kept.floor = sym c.floor.ensures ∙ c.if-floor.false ∙ c.requires.1 in
    allowed s _ (events.Take c.args.node c.args.records.now) outcomes.Done
    (and-true (a_node s c.args.node taker there) c.requires.0) (one_floor s c.args.node taker _ there same) (
      refl,
      node-done s _ (taking (from_list {R = record_cmp} c.args.records.now)) c.args.node taker c.in_ok-taker.taker there
          (c.in_ok-taker.ensures ∙ ap (λ m. taking m taker) more) written,
    )
