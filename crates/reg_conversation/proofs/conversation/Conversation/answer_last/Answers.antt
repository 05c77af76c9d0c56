use Rattle.std.proofs.Common.{arith, take, take_all}
use Rattle.reg_conversation.proofs.Lasts.{last-answered, last-refused, last-told}
use Rattle.reg_conversation.proofs.conversation.Conversation.answer_last.Goals as goal

pub returns-clause-answered : goal.returns-clause-answered
returns-clause-answered g c =
    last-answered g.D.Desk.asks g.D.Desk.commands c.answer_held.result c.args.desk.now c.answer_held.new.desk c.args.self.now _ _ _
    c.requires.short (take_all c.held_len-len.result c.args.self.now (omega (arith, c.held_len-len.ensures))) c.answer_held.ensures.step

pub returns-clause-outcome : goal.returns-clause-outcome
returns-clause-outcome g c =
    last-told g.D.Desk.asks g.D.Desk.commands c.answer_held.result c.args.desk.now c.answer_held.new.desk c.args.self.now _ _ _
    c.requires.short (take_all c.held_len-len.result c.args.self.now (omega (arith, c.held_len-len.ensures))) c.answer_held.ensures.step

pub returns-clause-refused : goal.returns-clause-refused
returns-clause-refused g c =
    last-refused g.D.Desk.asks g.D.Desk.commands c.answer_held.result c.args.writer.now
    c.answer_held.new.writer c.args.desk.now c.answer_held.new.desk c.args.self.now
    (take c.held_len-len.result c.args.self.now) (g.W.Write.contents c.args.writer.now.inner)
    (g.W.Write.contents c.answer_held.new.writer.inner)
    (take_all c.held_len-len.result c.args.self.now (omega (arith, c.held_len-len.ensures))) c.answer_held.ensures.refused
