use Rattle.std.proofs.Common.{arith}
use Rattle.reg_messages.proofs.Numerals.{one_more_digit}
use Rattle.reg_messages.proofs.digits.digits_value.Goals as goal

pub overflow_mul-value : goal.overflow_mul-value
overflow_mul-value c =
    let step = one_more_digit c.args.digits.now c.loop-b.b-index c.requires.digits c.requires.few (omega arith) in
    omega (arith, step.0, step.1, c.loop-b.invariant)

pub overflow_add-value : goal.overflow_add-value
overflow_add-value c =
    let step = one_more_digit c.args.digits.now c.loop-b.b-index c.requires.digits c.requires.few (omega arith) in
    omega (arith, step.0, step.1, c.loop-b.invariant, c.from.ensures)

pub loop-b-preserved : goal.loop-b-preserved
loop-b-preserved c =
    let step = one_more_digit c.args.digits.now c.loop-b.b-index c.requires.digits c.requires.few (omega arith) in
    omega (arith, step.0, c.loop-b.invariant, c.from.ensures)
