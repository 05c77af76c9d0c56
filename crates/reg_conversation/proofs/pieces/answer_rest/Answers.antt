use Rattle.std.proofs.Common.{◌≡◌, true, false, rules}
use Rattle.reg_conversation.proofs.Turns.{rest-closed, rest-replies, rest-stops, stops-now}
use Rattle.reg_conversation.proofs.pieces.answer_rest.Goals as goal

pub returns-in-Ok-clause-answered : goal.returns-in-Ok-clause-answered
returns-in-Ok-clause-answered g c =
    let whole = c.in-Ok-true in
    let goes : whole.field-0 ≡ true = search rules in
    rest-replies g.D.Desk.asks g.D.Desk.commands c.args.desk.now
    c.answer_whole.new.desk c.answer_last.new.desk c.args.conversation.now
    c.answer_whole.new.conversation _ _ _ whole.field-0 goes whole.ensures.answered c.in-Ok.ensures.answered

pub returns-in-Err-answer_last-clause-refused : goal.returns-in-Err-answer_last-clause-refused
returns-in-Err-answer_last-clause-refused g c =
    let whole = c.in-Ok-true in
    let goes : whole.field-0 ≡ true = search rules in
    rest-stops g.D.Desk.asks g.D.Desk.commands c.args.writer.now c.answer_whole.new.writer c.answer_last.new.writer
    c.args.desk.now c.answer_whole.new.desk c.answer_last.new.desk c.args.conversation.now c.answer_whole.new.conversation
    (g.W.Write.contents c.args.writer.now.inner) (g.W.Write.contents c.answer_whole.new.writer.inner)
    (g.W.Write.contents c.answer_last.new.writer.inner) c.in-Err-answer_last.e
    whole.field-0 goes whole.ensures.faults whole.ensures.answered c.in-Err-answer_last.ensures.refused

pub returns-in-Ok-false-clause-answered : goal.returns-in-Ok-false-clause-answered
returns-in-Ok-false-clause-answered g c =
    let now = c.in-Ok-false in
    let ends : now.field-0 ≡ false = search rules in
    rest-closed g.D.Desk.asks g.D.Desk.commands c.args.desk.now c.answer_whole.new.desk
    c.args.conversation.now c.answer_whole.new.conversation _ _
    now.field-0 ends now.ensures.answered

pub returns-in-Err-clause-refused : goal.returns-in-Err-clause-refused
returns-in-Err-clause-refused g c =
    stops-now g.D.Desk.asks g.D.Desk.commands c.args.writer.now c.answer_whole.new.writer
    c.args.desk.now c.answer_whole.new.desk c.args.conversation.now
    (g.W.Write.contents c.args.writer.now.inner) (g.W.Write.contents c.answer_whole.new.writer.inner) c.in-Err.e c.in-Err.ensures.refused
