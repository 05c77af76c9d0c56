use Rattle.std.proofs.Common.{refl}
use Rattle.reg_desk.proofs.Told.{commands}
use Rattle.reg_desk.proofs.desk.NodeDeskDesk.command.Goals as goal

pub returns : goal.returns
returns g c =
    let done = c.submit_from-reply.ensures in
    commands g.K.Keep.keeps g.W.Wake.wakes g.N.FeedName.first _ c.args.self.now _ c.args.command.now
    c.submit_from-reply.result.reply c.submit_from-reply.result.seen c.of-ruling.new.view
    c.self.view_is refl done.counted done.written done.next c.topic_grew.ensures c.of-ruling.ensures c.catch_up-self-inside.ensures
