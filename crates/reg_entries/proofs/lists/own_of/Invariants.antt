use Rattle.std.proofs.Common.{◌≡◌, map, take}
use Rattle.reg_entries.proofs.lists.own_of.Given as goal

abbrev pub invariant-loop-stored_entry : goal.invariant-loop-stored_entry
invariant-loop-stored_entry l = map (λ e. e.now) l.found.items ≡ map (λ e. e.now) (take l.stored_entry-index l.stored_entries)
