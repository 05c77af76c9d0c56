use Rattle.std.proofs.Common.{◌≡◌, ◌+◌, ℕ, List, Some, length, sym, subst, ◌∙◌, arith}
use Rattle.reg_compaction.proofs.Walked.{GoesOn, at_end, begun, front, rest_of, step}
use Rattle.reg_compaction.proofs.walk.Walk.take_lines.Goals as goal

pub loop-line-init : goal.loop-line-init
loop-line-init c lines read has = begun c.args.top lines read c.args.self.now c.args.text.now c.args.count has

pub returns : goal.returns
returns c lines read has =
    at_end c.args.top lines read c.args.self.now c.loop-line.self c.loop-line.rest.now c.loop-line._line c.args.count
    (c.loop-line.invariant lines read has)
    (omega (arith, c.loop-line-test.false, c.loop-line.auto._line-end))

pub returns-in_default : goal.returns-in_default
returns-in_default c lines read has =
    let go = c.loop-line.invariant lines read has in
    let f = front c.args.top lines read c.args.self.now c.loop-line.self
    c.loop-line.rest.now c.loop-line._line c.args.count go c.loop-line-test.true in
    absurd (c.in_default.not-Some _ (c.in_ok-len.ensures.taken f).0)

pub loop-line-preserved : goal.loop-line-preserved
loop-line-preserved c lines read has =
    let go = c.loop-line.invariant lines read has in
    let rest = c.loop-line.rest.now in
    let f = front c.args.top lines read c.args.self.now c.loop-line.self rest c.loop-line._line c.args.count go c.loop-line-test.true in
    let taken = c.in_ok-len.ensures.taken f in
    let is : Some c.in-Some.len ≡ Some (length f.line + 1) = sym c.in-Some.is ∙ taken.0 in
    let len : c.in-Some.len ≡ length f.line + 1 = cc in
    subst (λ (r : List ℕ). GoesOn c.args.top lines read c.args.self.now c.take_front.new.self r (c.loop-line._line + 1) c.args.count)
    (rest_of f.line f.behind rest c.in-Some.len f.parts len)
    (step c.args.top lines read c.args.self.now c.loop-line.self rest c.loop-line._line
    c.args.count go c.loop-line-test.true c.take_front.new.self taken.1)
