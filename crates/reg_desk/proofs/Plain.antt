-- A keep that takes every batch declines none.
use Rattle.std.proofs.Common.{List}
use Rattle.reg_leader.specs.declared.command.Command.{Command}
use Rattle.reg_leader.specs.declared.reply.Reply.{Reply}
use Rattle.reg_topic.specs.declared.published.Item.{Item}
use Rattle.reg_topic.specs.declared.topic.Topic.{Topic}
use Rattle.reg_pen.specs.Keep.{TakesAll}
use Rattle.reg_pen.specs.Pen.{IsDeclined}

pub never_declined : {K : Type 0} (base : Topic) (front : List Item) (c : Command) (reply : Reply)
    → IsDeclined (TakesAll {K = K}) base front c reply → ⊥
never_declined base front c reply d = absurd (cc (d.lent.0))
