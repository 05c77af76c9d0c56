use Rattle.std.proofs.Common.{◌++◌}
use Rattle.reg_conversation.proofs.Turns.{stops-fed}
use Rattle.reg_conversation.proofs.pieces.take_piece.Goals as goal

pub returns-in-Err-answer_whole-clause-refused : goal.returns-in-Err-answer_whole-clause-refused
returns-in-Err-answer_whole-clause-refused g c =
    stops-fed g.D.Desk.asks g.D.Desk.commands c.args.writer.now c.answer_whole.new.writer c.args.desk.now c.answer_whole.new.desk
    c.feed.new.self (c.args.conversation.now ++ c.args.piece.now)
    (g.W.Write.contents c.args.writer.now.inner) (g.W.Write.contents c.answer_whole.new.writer.inner)
    c.in-Err-answer_whole.e c.in-Ok.ensures.fed c.in-Err-answer_whole.ensures.refused
