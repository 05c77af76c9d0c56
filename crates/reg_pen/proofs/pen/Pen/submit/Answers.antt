use Rattle.std.proofs.Common.{rules, inr}
use mathlib.Core.List.{IsPrefix}
use Rattle.reg_pen.specs.Pen.{IsBehind}
use Rattle.reg_pen.proofs.Prefixes.{since_still}
use Rattle.reg_pen.proofs.pen.Pen.submit.Goals as goal

pub returns-clause-since : goal.returns-clause-since
returns-clause-since g c =
    let had : IsBehind c.args.since c.args.self.now.published = search rules in
    let grows : IsPrefix c.args.self.now.published c.settle_and_act-reply.new.self.published = search rules in
    inr (since_still c.args.since c.args.self.now.published c.settle_and_act-reply.new.self.published had grows)
