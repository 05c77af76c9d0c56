use Rattle.std.proofs.Common.{◌≡◌}
use Rattle.reg_set.proofs.with_text.without_texts.Given as goal

abbrev pub invariant-loop-one : goal.invariant-loop-one
invariant-loop-one l = l.found.items ≡ l.yielded
