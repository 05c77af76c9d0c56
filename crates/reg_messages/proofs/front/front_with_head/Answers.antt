use Rattle.std.proofs.Common.{◌+◌, arith, length, subst, sym, take}
use Rattle.reg_messages.specs.Extent.{EndsAt}
use Rattle.reg_messages.specs.FrontRead.{IsFrontOf, IsReadOf}
use Rattle.reg_messages.specs.declared.front.FrontRead.{FrontRead}
use Rattle.reg_messages.proofs.Extents.{ends-body, ends-lines, reads-head, reads-lines}
use Rattle.reg_messages.proofs.FrontsRead.{read-some, read-told}
use Rattle.reg_messages.proofs.front.front_with_head.Goals as goal

pub returns-then-not-has_few_lines-clause-ends : goal.returns-then-not-has_few_lines-clause-ends
returns-then-not-has_few_lines-clause-ends c = λ text tail is.
    subst (λ (f : FrontRead). EndsAt text f.len) (sym c.too_large.ensures)
    (ends-lines text c.args.blank.now c.args.rest.now tail c.args.len is c.requires.all c.requires.kept c.requires.ends c.requires.fits
    (omega (arith, c.requires.few, c.requires.fits)) (sym c.if-not-has_few_lines.ensures))

pub returns-then-not-has_few_lines-clause-read : goal.returns-then-not-has_few_lines-clause-read
returns-then-not-has_few_lines-clause-read c = λ text tail is.
    subst (λ (f : FrontRead). IsFrontOf text f) (sym c.too_large.ensures)
    (reads-lines text c.args.blank.now c.args.rest.now tail c.args.len is c.requires.all c.requires.kept c.requires.ends c.requires.fits
    (omega (arith, c.requires.few, c.requires.fits)) (sym c.if-not-has_few_lines.ensures))

pub returns-clause-ends : goal.returns-clause-ends
returns-clause-ends c = λ text tail is.
    let read = c.read_head-read.ensures.read in
    ends-body text c.args.blank.now c.args.rest.now tail c.args.len is c.requires.all c.requires.kept c.requires.ends c.requires.fits
    (omega (arith, c.requires.few, c.requires.fits)) c.body_len.result (sym c.if-not-has_few_lines.ensures)
    (rw c.body_len.ensures (read-told _ c.read_head-read.result read))
    (rw c.body_len.ensures (read-some _ c.read_head-read.result read))

pub returns-clause-read : goal.returns-clause-read
returns-clause-read c = λ text tail is.
    reads-head text c.args.blank.now c.args.rest.now tail c.args.len is c.requires.all c.requires.kept c.requires.ends c.requires.fits
    (omega (arith, c.requires.few, c.requires.fits)) (length c.args.blank.now + c.args.len + c.body_len.result) c.of.result.read
    (sym c.if-not-has_few_lines.ensures) (omega arith)
    (subst (IsReadOf (take c.args.len c.args.rest.now)) (sym c.of.ensures) c.read_head-read.ensures.read)
