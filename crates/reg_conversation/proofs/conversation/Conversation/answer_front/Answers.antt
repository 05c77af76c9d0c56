use Rattle.reg_conversation.proofs.Fronts.{held-answered, held-fails, held-over}
use Rattle.reg_conversation.proofs.conversation.Conversation.answer_front.Goals as goal

pub unreachable-requires : goal.unreachable-requires
unreachable-requires g c =
    held-over g.D.Desk.asks g.D.Desk.commands c.args.desk.now c.answer_held.new.desk c.args.self.now c.args.len _ _
    c.in-Ok-None.field-0 c.in-Ok-None.field-0-is c.requires.whole c.in-Ok-None.ensures.step

pub returns-in-Ok-Some-clause-answered : goal.returns-in-Ok-Some-clause-answered
returns-in-Ok-Some-clause-answered g c =
    held-answered g.D.Desk.asks g.D.Desk.commands c.args.desk.now c.answer_held.new.desk c.args.self.now c.answer_held.new.self c.args.len _ _
    c.in-Ok-Some.field-0 c.in-Ok-Some.outcome c.in-Ok-Some.field-0-is c.requires.whole c.answer_held.ensures.dropped c.in-Ok-Some.ensures.step

pub returns-in-Err-clause-refused : goal.returns-in-Err-clause-refused
returns-in-Err-clause-refused g c = λ more.
    held-fails g.D.Desk.asks g.D.Desk.commands c.args.writer.now c.answer_held.new.writer c.args.desk.now c.answer_held.new.desk
    c.args.self.now c.args.len (g.W.Write.contents c.args.writer.now.inner)
    (g.W.Write.contents c.answer_held.new.writer.inner) c.in-Err.e c.requires.whole
    c.in-Err.ensures.refused more
