use Rattle.std.proofs.Common.{◌≡◌, true, false, refl, sym, ap, ◌∙◌, rules}
use Rattle.reg_topic.specs.Topic.{may_compact}
use Rattle.reg_topic.specs.declared.published.Item.TheVariants as items
use Rattle.reg_world.specs.Happens.{at_floor}
use Rattle.reg_world.specs.State.{State, publish, settled, topic_of}
use Rattle.reg_world.specs.declared.event.Event.TheVariants as events
use Rattle.reg_world.specs.declared.event.Outcome.TheVariants as outcomes
use Rattle.reg_world.proofs.Steps.{allowed, not_allowed}
use Rattle.reg_world.proofs.cluster.Cluster.compact_to.Goals as goal

pub returns-then-not-may-clause-happens : goal.returns-then-not-may-clause-happens
returns-then-not-may-clause-happens c =
    let s = c.args.self.now in
    let floor = c.args.floor in
    let same : c.in_ok-dropped.dropped ≡ c.args.dropped.now = search rules in
    let told : may_compact (topic_of (settled s)) (at_floor floor c.args.dropped.now) ≡ c.in_ok-may.may =
    ap (λ ds. may_compact (topic_of (settled s)) (at_floor floor ds)) (sym same) ∙ sym c.in_ok-may.ensures.told in
    let refused : c.in_ok-may.may ≡ false = search rules in
    not_allowed s _ (events.CompactTo floor c.args.dropped.now) (told ∙ refused) c.in_ok-may.ensures.same

pub returns-clause-happens : goal.returns-clause-happens
returns-clause-happens c =
    let s = c.args.self.now in
    let floor = c.args.floor in
    let same : c.in_ok-dropped.dropped ≡ c.args.dropped.now = search rules in
    let told : may_compact (topic_of (settled s)) (at_floor floor c.args.dropped.now) ≡ c.in_ok-may.may =
    ap (λ ds. may_compact (topic_of (settled s)) (at_floor floor ds)) (sym same) ∙ sym c.in_ok-may.ensures.told in
    let fine : c.in_ok-may.may ≡ true = search rules in
    allowed s _ (events.CompactTo floor c.args.dropped.now) outcomes.Done (told ∙ fine) refl (
      refl,
      c.in_ok-publish_compaction.ensures.published
          ∙ ap (λ (t : State). publish (settled t) (items.Compaction (at_floor floor c.in_ok-dropped.dropped))) c.in_ok-may.ensures.same
          ∙ ap (λ ds. publish (settled s) (items.Compaction (at_floor floor ds))) same,
    )
