use Rattle.std.proofs.Common.{◌≡◌, ◌+◌, ◌++◌, ℕ, List, Some, length, sym, subst, ◌∙◌, arith}
use Rattle.reg_journal.specs.Lines.{text_of}
use Rattle.reg_base.specs.Base.{lines_below}
use Rattle.reg_base.proofs.Lines.{GoesOn, at_end, begun, front, rest_of, step}
use Rattle.reg_base.proofs.below.push_below.Goals as goal

pub loop-line-init : goal.loop-line-init
loop-line-init c lines read has = begun c.args.below c.args.part.now.items c.args.text.now lines read c.args.count has

pub returns : goal.returns
returns c lines read has =
    at_end c.args.below (c.args.part.now.items ++ text_of (lines_below c.args.below lines read)) c.loop-line.part.items
    c.loop-line.rest.now c.loop-line._line c.args.count (c.loop-line.invariant lines read has)
    (omega (arith, c.loop-line-test.false, c.loop-line.auto._line-end))

pub returns-in_default : goal.returns-in_default
returns-in_default c lines read has =
    let wanted = c.args.part.now.items ++ text_of (lines_below c.args.below lines read) in
    let f = front c.args.below wanted c.loop-line.part.items c.loop-line.part.items c.loop-line.rest.now c.loop-line._line c.args.count (
    c.loop-line.invariant lines read has) c.loop-line-test.true in
    absurd (c.in_default.not-Some _ (c.in_ok-len.ensures.pushed f).0)

pub loop-line-preserved : goal.loop-line-preserved
loop-line-preserved c lines read has =
    let wanted = c.args.part.now.items ++ text_of (lines_below c.args.below lines read) in
    let go = c.loop-line.invariant lines read has in
    let rest = c.loop-line.rest.now in
    let new = c.push_front.new.part.items in
    let f = front c.args.below wanted c.loop-line.part.items new rest c.loop-line._line c.args.count go c.loop-line-test.true in
    let pushed = c.in_ok-len.ensures.pushed f in
    let is : Some c.in-Some.len ≡ Some (length f.line + 1) = sym c.in-Some.is ∙ pushed.0 in
    let len : c.in-Some.len ≡ length f.line + 1 = cc in
    subst (λ (r : List ℕ). GoesOn c.args.below wanted new r (c.loop-line._line + 1) c.args.count)
    (rest_of f.line f.behind rest c.in-Some.len f.parts len)
    (step c.args.below wanted c.loop-line.part.items new rest c.loop-line._line c.args.count go c.loop-line-test.true pushed.1)
