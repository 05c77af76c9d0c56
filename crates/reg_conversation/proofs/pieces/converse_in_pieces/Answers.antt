use Rattle.std.proofs.Common.{◌≡◌, true, false, ap, arith, rules, ◌∙◌}
use Rattle.reg_conversation.proofs.Texts.{pieces-begun, pieces-closed, pieces-ended, pieces-last, pieces-more, pieces-stop}
use Rattle.reg_conversation.proofs.pieces.converse_in_pieces.Goals as goal

pub loop-piece-init : goal.loop-piece-init
loop-piece-init g c = (
  pieces-begun g.D.Desk.asks g.D.Desk.commands c.args.desk.now c.new-conversation.result _ _ c.new-conversation.ensures
      (ap g.W.Write.contents c.begin_count.ensures.inner),
  c.begin_count.ensures.faults,
  omega (arith, c.begin_count.ensures.interruptions),
)

pub loop-piece-preserved : goal.loop-piece-preserved
loop-piece-preserved g c =
    let (some, faults, few) = c.loop-piece.invariant in
    let now = c.in-Ok-true in
    let goes : now.field-0 ≡ true = search rules in (
      pieces-more g.D.Desk.asks g.D.Desk.commands c.args.pieces.now
          c.loop-piece.piece-index _ c.args.desk.now c.loop-piece.desk c.take_piece.new.desk
          c.loop-piece.conversation c.take_piece.new.conversation _ _ _ now.field-0 c.loop-piece-test.true goes some now.ensures.answered,
      now.ensures.faults ∙ faults,
      now.ensures.interruptions,
    )

pub returns-in-Ok-false-clause-written : goal.returns-in-Ok-false-clause-written
returns-in-Ok-false-clause-written g c =
    let now = c.in-Ok-false in
    let ends : now.field-0 ≡ false = search rules in
    pieces-closed g.D.Desk.asks g.D.Desk.commands c.args.pieces.now
    c.loop-piece.piece-index _ c.args.desk.now c.loop-piece.desk c.take_piece.new.desk
    c.loop-piece.conversation c.take_piece.new.conversation _ _ _ now.field-0
    c.loop-piece-test.true ends c.loop-piece.invariant.0 now.ensures.answered

pub returns-in-Err-clause-refused : goal.returns-in-Err-clause-refused
returns-in-Err-clause-refused g c =
    let (some, faults, few) = c.loop-piece.invariant in
    pieces-stop g.D.Desk.asks g.D.Desk.commands g.W.Write.contents c.args.pieces.now
    c.loop-piece.piece-index _ c.args.writer.now c.loop-piece.writer c.take_piece.new.writer
    c.args.desk.now c.loop-piece.desk c.take_piece.new.desk c.loop-piece.conversation c.take_piece.new.conversation
    (g.W.Write.contents c.args.writer.now.inner)
    c.in-Err.e c.loop-piece-test.true faults some c.in-Err.ensures.refused

pub returns-in-Ok-clause-written : goal.returns-in-Ok-clause-written
returns-in-Ok-clause-written g c =
    pieces-ended g.D.Desk.asks g.D.Desk.commands c.args.pieces.now
    c.loop-piece.piece-index c.args.desk.now c.loop-piece.desk c.answer_rest.new.desk
    c.loop-piece.conversation _ _ _ c.loop-piece-test.false c.loop-piece.invariant.0 c.in-Ok.ensures.answered

pub returns-clause-refused : goal.returns-clause-refused
returns-clause-refused g c =
    let (some, faults, few) = c.loop-piece.invariant in
    let now = c.in-Err-answer_rest in
    pieces-last g.D.Desk.asks g.D.Desk.commands c.args.pieces.now c.loop-piece.piece-index
    c.args.writer.now c.loop-piece.writer c.answer_rest.new.writer
    c.args.desk.now c.loop-piece.desk c.answer_rest.new.desk c.loop-piece.conversation (g.W.Write.contents c.args.writer.now.inner)
    (g.W.Write.contents c.loop-piece.writer.inner)
    (g.W.Write.contents c.answer_rest.new.writer.inner) now.e c.loop-piece-test.false faults some now.ensures.refused
