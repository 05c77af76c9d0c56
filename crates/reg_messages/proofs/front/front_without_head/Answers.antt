use Rattle.std.proofs.Common.{◌≤◌, inl, inr, length, arith, subst, sym}
use Rattle.reg_messages.specs.Extent.{EndsAt}
use Rattle.reg_messages.specs.FrontRead.{IsFrontOf}
use Rattle.reg_messages.specs.declared.front.FrontRead.{FrontRead}
use Rattle.reg_messages.specs.declared.limits.TheConstants.{HEAD_LIMIT}
use Rattle.reg_messages.proofs.Extents.{ends-none, lacks-ended, least, reads-none}
use Rattle.reg_messages.proofs.front.front_without_head.Goals as goal

pub returns-then-size-limit-clause-lacks : goal.returns-then-size-limit-clause-lacks
returns-then-size-limit-clause-lacks c = λ text tail is size.
    let rest = c.args.rest.now in
    let few : c.args.size ≤ HEAD_LIMIT = elim (least (length rest)) [
      | inl none ↦ omega (arith, c.if-size-limit.true, c.refused_len-limit.ensures.blank none)
      | inr more ↦ omega (arith, c.if-size-limit.true, c.refused_len-limit.ensures.begun more)
    ] in
    lacks-ended text c.args.blank.now rest tail is c.requires.all c.requires.kept c.requires.none
    (omega (arith, size, few, c.requires.window)) (omega (arith, size, few))
    (λ more. omega (arith, size, c.if-size-limit.true, c.refused_len-limit.ensures.begun more))

pub returns-clause-ends : goal.returns-clause-ends
returns-clause-ends c = λ text tail is size.
    let rest = c.args.rest.now in
    let full : HEAD_LIMIT ≤ c.args.size = elim (least (length rest)) [
      | inl none ↦ omega (arith, c.if-size-limit.false, c.refused_len-limit.ensures.blank none)
      | inr more ↦ omega (arith, c.if-size-limit.false, c.refused_len-limit.ensures.begun more)
    ] in
    subst (λ (f : FrontRead). EndsAt text f.len) (sym c.too_large.ensures)
    (ends-none text c.args.blank.now rest tail c.refused_len-limit.result is c.requires.all c.requires.kept c.requires.none
    (omega (arith, c.requires.window, full)) c.refused_len-limit.ensures.blank c.refused_len-limit.ensures.begun
    (omega (arith, c.if-size-limit.false, size)))

pub returns-clause-read : goal.returns-clause-read
returns-clause-read c = λ text tail is size.
    let rest = c.args.rest.now in
    let full : HEAD_LIMIT ≤ c.args.size = elim (least (length rest)) [
      | inl none ↦ omega (arith, c.if-size-limit.false, c.refused_len-limit.ensures.blank none)
      | inr more ↦ omega (arith, c.if-size-limit.false, c.refused_len-limit.ensures.begun more)
    ] in
    subst (λ (f : FrontRead). IsFrontOf text f) (sym c.too_large.ensures)
    (reads-none text c.args.blank.now rest tail c.refused_len-limit.result is c.requires.all c.requires.kept c.requires.none
    (omega (arith, c.requires.window, full)) c.refused_len-limit.ensures.blank c.refused_len-limit.ensures.begun
    (omega (arith, c.if-size-limit.false, size)))
