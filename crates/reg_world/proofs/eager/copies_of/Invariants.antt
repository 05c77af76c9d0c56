use Rattle.std.proofs.Common.{◌≡◌, map, take}
use Rattle.reg_world.proofs.eager.copies_of.Given as goal

abbrev pub invariant-loop-entry : goal.invariant-loop-entry
invariant-loop-entry l = l.found.items ≡ map (λ e. e.now) (take l.entry-index l.entries)
