use Rattle.std.proofs.Common.{◌≡◌, map}
use Rattle.reg_entries.proofs.lists.list_between.Given as goal

abbrev pub invariant-loop-entry : goal.invariant-loop-entry
invariant-loop-entry l = map (λ e. e.now) l.found.items ≡ map (λ p. p.1.now) l.yielded
