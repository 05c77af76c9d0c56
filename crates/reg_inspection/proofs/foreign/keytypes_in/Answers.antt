use Rattle.std.proofs.Common.{◌≡◌, ◌+◌, ℕ, List, Some, length, sym, subst, ◌∙◌, arith}
use Rattle.reg_inspection.proofs.Lines.{GoesOn, at_end, begun, front, rest_of, step}
use Rattle.reg_inspection.proofs.foreign.keytypes_in.Goals as goal

pub loop-line-init : goal.loop-line-init
loop-line-init c lines read has = begun lines read c.new-found.result.items c.args.text.now c.args.count c.new-found.ensures.items has

pub returns : goal.returns
returns c lines read has =
    at_end lines c.loop-line.found.items c.loop-line.rest.now c.loop-line._line c.args.count (c.loop-line.invariant lines read has)
    (omega (arith, c.loop-line-test.false, c.loop-line.auto._line-end))

pub returns-in_default : goal.returns-in_default
returns-in_default c lines read has =
    let f = front lines c.loop-line.found.items c.loop-line.found.items c.loop-line.rest.now c.loop-line._line c.args.count (
    c.loop-line.invariant lines read has) c.loop-line-test.true in
    absurd (c.in_default.not-Some _ (c.in_ok-len.ensures.pushed f).0)

pub loop-line-preserved : goal.loop-line-preserved
loop-line-preserved c lines read has =
    let go = c.loop-line.invariant lines read has in
    let rest = c.loop-line.rest.now in
    let new = c.push_front.new.found.items in
    let f = front lines c.loop-line.found.items new rest c.loop-line._line c.args.count go c.loop-line-test.true in
    let pushed = c.in_ok-len.ensures.pushed f in
    let is : Some c.in-Some.len ≡ Some (length f.line + 1) = sym c.in-Some.is ∙ pushed.0 in
    let len : c.in-Some.len ≡ length f.line + 1 = cc in
    subst (λ (r : List ℕ). GoesOn lines new r (c.loop-line._line + 1) c.args.count)
    (rest_of f.line f.behind rest c.in-Some.len f.parts len)
    (step lines c.loop-line.found.items new rest c.loop-line._line c.args.count go c.loop-line-test.true pushed.1)
