use Rattle.std.proofs.Common.{◌≡◌, List, false, ap, subst, sym, ◌∙◌, arith}
use Rattle.std.specs.FinSet.{from_list}
use Rattle.reg_alike.specs.reg_fold.Closed.{is_closed}
use Rattle.reg_alike.specs.reg_leader.Adoption.{HasPlace}
use Rattle.reg_alike.specs.reg_set.LastRecords.{last_records}
use Rattle.reg_topic.specs.Topic.{topic_from}
use Rattle.reg_topic.specs.declared.topic.Topic.{Topic}
use Rattle.reg_world.specs.Headline.{IsReached}
use Rattle.reg_world.specs.State.{start}
use Rattle.reg_world.proofs.Begun.{begun_is}
use Rattle.reg_world.proofs.Courses.{reached_at_start}
use Rattle.reg_world.proofs.world.World.start.Goals as goal

pub returns-clause-start : goal.returns-clause-start
returns-clause-start c =
    let b = c.args.base.now in
    let begun : c.publish_due.new.topic ≡ topic_from b.records.items b.next b.floor =
    begun_is b.records.items b.next b.floor c.in_ok-topic.topic c.publish_due.new.topic _ c.in_ok-topic.ensures
    (c.deref.ensures.value ∙ c.in_ok-registry.ensures.due) c.in_ok-publish_due.ensures.topic in
    c.in_ok-cluster.ensures ∙ ap (λ (t : Topic). start t c.args.nodes) begun

pub returns-clause-place : goal.returns-clause-place
returns-clause-place c = subst (λ (t : Topic). HasPlace (last_records t.log) t.next) c.in_ok-topic.ensures c.in_ok-registry.ensures.place

pub returns-clause-keeps : goal.returns-clause-keeps
returns-clause-keeps c = let led = c.is_reached.ensures in c.worlds_keep_the_headline.ensures led.0 c.in_ok-cluster.cluster led.1

pub invariant_of-world : goal.invariant_of-world
invariant_of-world c =
    let b = c.args.base.now in
    let begun : c.publish_due.new.topic ≡ topic_from b.records.items b.next b.floor =
    begun_is b.records.items b.next b.floor c.in_ok-topic.topic c.publish_due.new.topic _ c.in_ok-topic.ensures
    (c.deref.ensures.value ∙ c.in_ok-registry.ensures.due) c.in_ok-publish_due.ensures.topic in
    let fine : is_closed (last_records (from_list b.records.items)) ≡ false =
    subst (λ (t : Topic). is_closed (last_records t.log) ≡ false) c.in_ok-topic.ensures c.in_ok-registry.ensures.takes_commands in
    let adopted = c.adopted_logs_begin.ensures b.records.items b.next b.floor b.ahead b.above fine in
    subst IsReached (sym c.in_ok-cluster.ensures)
    (subst (λ (t : Topic). IsReached (start t c.args.nodes)) (sym begun)
    (reached_at_start (topic_from b.records.items b.next b.floor) c.args.nodes adopted))
