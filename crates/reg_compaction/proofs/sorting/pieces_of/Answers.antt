use Rattle.std.proofs.Common.{◌≡◌, ◌<◌, ◌≤◌, ◌+◌, length, sym, refl, ◌∙◌, arith}
use Rattle.reg_compaction.specs.Fronts.{Front}
use Rattle.reg_compaction.proofs.Pieces.{at_end, at_none, begun, of_pairs, step}
use Rattle.reg_compaction.proofs.sorting.pieces_of.Goals as goal

pub loop-line-init : goal.loop-line-init
loop-line-init c lines read few parts say =
    begun lines read c.new-pieces.result.items c.args.text.now c.args.count c.new-pieces.ensures.items few parts say

pub returns : goal.returns
returns c lines read few parts say =
    at_end lines c.loop-line.pieces.items c.loop-line.rest.now c.loop-line._line c.args.count
    (c.loop-line.invariant lines read few parts say)
    (omega (arith, c.loop-line-test.false, c.loop-line.auto._line-end))

pub returns-in_default : goal.returns-in_default
returns-in_default c lines read few parts say =
    at_none lines c.loop-line.pieces.items c.loop-line.rest.now c.loop-line._line c.args.count
    (c.loop-line.invariant lines read few parts say)
    (λ f. c.in_default.not-Some _ (c.in_ok-len.ensures.line f.line f.behind f.read f.parts f.free f.says))

pub loop-line-preserved : goal.loop-line-preserved
loop-line-preserved c lines read few parts say =
    let rest = c.loop-line.rest.now in
    let long : 0 < c.in-Some.len = rw c.in-Some.is at c.in_ok-len.ensures.some in
    let within : c.in-Some.len ≤ length rest = rw c.in-Some.is at c.in_ok-len.ensures.within in
    let some : 0 < length rest = omega (arith, long, within) in
    let found : (f : Front rest) → (c.in-Some.len ≡ length f.line + 1) × (c.in-Some.read ≡ f.read) =
    λ f.
    of_pairs c.in-Some.len (length f.line + 1) c.in-Some.read f.read
    (sym c.in-Some.is ∙ c.in_ok-len.ensures.line f.line f.behind f.read f.parts f.free f.says) in
    step lines c.loop-line.pieces.items c.push.new.self.items rest c.loop-line._line c.args.count c.in-Some.len c.in-Some.read _ (
    c.loop-line.invariant lines read few parts say) some found
    c.in_ok-push.ensures.items c.offset.ensures refl
