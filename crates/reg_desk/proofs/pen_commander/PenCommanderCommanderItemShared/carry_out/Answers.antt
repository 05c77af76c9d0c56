use Rattle.std.proofs.Common.{◌≡◌, rules}
use Rattle.reg_pen.specs.Pen.{counted}
use Rattle.reg_shared.specs.Held.{base_of}
use Rattle.reg_desk.proofs.Fronts.{pen_carries}
use Rattle.reg_desk.proofs.pen_commander.PenCommanderCommanderItemShared.carry_out.Goals as goal

pub returns-clause-carried : goal.returns-clause-carried
returns-clause-carried g c =
    let same : c.again.result ≡ c.of-ruling.new.view = search rules in
    let counts : c.submit_from-reply.new.self ≡ counted c.args.self.now = search rules in
    pen_carries g.K.Keep.keeps (base_of g.N.FeedName.first) c.args.self.now c.submit_from-reply.new.self c.args.view.now
    c.of-ruling.new.view c.again.result c.submit_from-reply.result.seen c.learn.new.self c.args.command.now
    c.submit_from-reply.result.reply c.of-ruling.ensures same counts c.submit_from-reply.ensures.written
    c.submit_from-reply.ensures.next c.learn.ensures.one c.learn.ensures.that
