use mathlib.Core.List.{IsPrefix}
use Rattle.reg_join_service.proofs.taking.Taker.take_some.Given as goal

abbrev pub invariant-loop-batch : goal.invariant-loop-batch
invariant-loop-batch g l = IsPrefix l.fn.pen.published l.pen.published
