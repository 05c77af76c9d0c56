use Rattle.reg_shared.specs.Held.{base_of}
use Rattle.reg_desk.specs.Desk.{front_of}
use Rattle.reg_desk.proofs.Told.{is_next, submitted_told}
use Rattle.reg_desk.proofs.pen_handle.PenHandle.submit_from.Goals as goal

pub returns-clause-next : goal.returns-clause-next
returns-clause-next g c =
    let keeps = g.K.Keep.keeps in
    let base = base_of g.N.FeedName.first in
    let before = c.args.before.now in
    let done = c.submit_ruled-reply.result in
    is_next keeps base (front_of before) done.seen c.later.result c.args.command.now done.reply
    (submitted_told keeps base before c.args.command.now done.reply done.seen (c.submit_ruled-reply.ensures.0))
    c.later.ensures.grows c.later.ensures.same
