use Rattle.std.proofs.Common.{◌≡◌, arith, length, rules}
use Rattle.reg_serve.proofs.Kept.{kept-after}
use Rattle.reg_serve.proofs.worker.answer_front.Goals as goal

pub returns-then-is_err-clause-failed : goal.returns-then-is_err-clause-failed
returns-then-is_err-clause-failed g c =
    let same : c.new-out.result.inner.items ≡ c.args.state.now.out.items = search rules in
    let now : c.into_inner.result.items ≡ c.answer_one-answered.new.writer.inner.items = search rules in
    let size : c.len-whole.result ≡ length c.args.state.now.out.items = omega (arith, c.len-whole.ensures) in
    kept-after g.D.Desk.asks g.D.Desk.commands g.D.SharedDesk.learns c.answer_one-answered.result c.args.desk.now
    c.answer_one-answered.new.desk c.args.connection.now.standing c.new-out.result c.answer_one-answered.new.writer
    c.args.connection.now.conversation c.args.state.now.out.items c.new-out.result.inner.items
    c.answer_one-answered.new.writer.inner.items c.into_inner.result.items c.truncate.new.self.items c.len-whole.result
    same now size c.truncate.ensures.items c.answer_one-answered.ensures.refused
