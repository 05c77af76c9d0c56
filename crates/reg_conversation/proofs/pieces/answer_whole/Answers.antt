use Rattle.std.proofs.Common.{ap, not, true, refl, ◌∙◌}
use Rattle.reg_conversation.proofs.Turns.{as-held, some-begun, stops-held, turn-closed, turn-more}
use Rattle.reg_conversation.proofs.pieces.answer_whole.Goals as goal

pub loop-len-init : goal.loop-len-init
loop-len-init g c = (some-begun g.D.Desk.asks g.D.Desk.commands _ _ _ _ refl, refl, c.requires.few)

pub loop-len-preserved : goal.loop-len-preserved
loop-len-preserved g c =
    let (some, faults, few) = c.loop-len.invariant in
    let now = c.in-Ok in (
      turn-more g.D.Desk.asks g.D.Desk.commands c.args.desk.now c.loop-len.desk
          c.answer_front.new.desk c.args.conversation.now c.loop-len.conversation
          c.front_len.new.self c.answer_front.new.self _ _ _ (not now.outcome.closes) true (ap not c.if-outcome.false)
          c.front_len.ensures.same some
          (as-held g.D.Desk.asks g.D.Desk.commands _ _ _ _ _ _ now.outcome now.ensures.answered),
      now.ensures.faults ∙ faults,
      now.ensures.interruptions,
    )

pub returns-then-outcome-clause-answered : goal.returns-then-outcome-clause-answered
returns-then-outcome-clause-answered g c =
    let now = c.in-Ok in
    turn-closed g.D.Desk.asks g.D.Desk.commands c.args.desk.now c.loop-len.desk
    c.answer_front.new.desk c.args.conversation.now c.loop-len.conversation
    c.front_len.new.self c.answer_front.new.self _ _ _ (not now.outcome.closes) (ap not c.if-outcome.true) c.front_len.ensures.same
    c.loop-len.invariant.0 (as-held g.D.Desk.asks g.D.Desk.commands _ _ _ _ _ _ now.outcome now.ensures.answered)

pub returns-in-Err-clause-refused : goal.returns-in-Err-clause-refused
returns-in-Err-clause-refused g c =
    let (some, faults, few) = c.loop-len.invariant in
    stops-held g.D.Desk.asks g.D.Desk.commands c.args.writer.now c.loop-len.writer
    c.answer_front.new.writer c.args.desk.now c.loop-len.desk c.answer_front.new.desk
    c.args.conversation.now c.loop-len.conversation c.front_len.new.self
    (g.W.Write.contents c.args.writer.now.inner) (g.W.Write.contents c.loop-len.writer.inner)
    (g.W.Write.contents c.answer_front.new.writer.inner) c.in-Err.e faults c.front_len.ensures.same some c.in-Err.ensures.refused
