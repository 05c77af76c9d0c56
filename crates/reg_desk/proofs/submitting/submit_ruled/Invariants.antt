use Rattle.std.proofs.Common.{◌≡◌}
use Rattle.reg_desk.proofs.submitting.submit_ruled.Given as goal

abbrev pub invariant-loop-again : goal.invariant-loop-again
invariant-loop-again g l = l.pen ≡ l.fn.pen
