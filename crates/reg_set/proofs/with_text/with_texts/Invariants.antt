use Rattle.std.proofs.Common.{◌≡◌}
use Rattle.reg_set.proofs.with_text.with_texts.Given as goal

abbrev pub invariant-loop-record : goal.invariant-loop-record
invariant-loop-record l = l.found.items ≡ l.yielded
