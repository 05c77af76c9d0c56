use Rattle.std.proofs.Common.{rules, ◌≡◌, Some}
use Rattle.reg_shared.specs.Held.{base_of}
use Rattle.reg_pen.specs.Pending.{IsFirst}
use Rattle.reg_pen.proofs.Acting.{lends, may_commit}
use Rattle.reg_pen.proofs.pen.Pen.act.Goals as goal

pub lend-requires-clause-may : goal.lend-requires-clause-may
lend-requires-clause-may g c =
    let d = c.decision-batch.result in
    let same : c.in-Ok.command ≡ c.args.command.now = search rules in
    let first : IsFirst d.batch (Some c.in-Some.first) = search rules in
    may_commit (base_of g.N.FeedName.first) c.args.self.now.published c.args.command.now
    c.in-Ok.command d c.in-Some.first same c.decision-batch.ensures first

pub returns-clause-acts : goal.returns-clause-acts
returns-clause-acts g c =
    let d = c.decision-batch.result in
    let same : c.in-Ok.command ≡ c.args.command.now = search rules in
    let first : IsFirst d.batch (Some c.in-Some.first) = search rules in
    let lent = c.lend.ensures.lent in
    lends g.K.Keep.keeps (base_of g.N.FeedName.first) c.args.self.now c.lend.new.self c.args.command.now
    c.in-Ok.command d c.in-Some.first lent.0 lent.1 c.lend.result same c.decision-batch.ensures first lent.2 lent.3
