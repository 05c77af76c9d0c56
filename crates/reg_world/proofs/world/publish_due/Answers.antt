use Rattle.std.proofs.Common.{◌≡◌, List, false, true, rules}
use Rattle.reg_alike.specs.reg_records.declared.record.Record.{Record}
use Rattle.reg_topic.specs.Topic.{follows}
use Rattle.reg_topic.specs.declared.topic.Topic.{Topic}
use Rattle.reg_world.proofs.Begun.{batch_registry, batch_stays}
use Rattle.reg_world.proofs.world.publish_due.Goals as goal

pub returns-then-not-follows-clause-topic : goal.returns-then-not-follows-clause-topic
returns-then-not-follows-clause-topic c =
    let t : Topic = c.args.topic.now in
    let due : List Record = c.args.due.now in
    let on : follows t.next due ≡ false = search rules in
    batch_stays (follows t.next due) t due on

pub returns-clause-registry : goal.returns-clause-registry
returns-clause-registry c =
    let t : Topic = c.args.topic.now in
    let due : List Record = c.args.due.now in
    let on : follows t.next due ≡ true = search rules in
    batch_registry (follows t.next due) t c.publish_batch.new.self due c.apply_all.new.self on c.in_ok-publish_batch.ensures.added
    (c.in_ok-apply_all.ensures.whole t.log c.requires)
