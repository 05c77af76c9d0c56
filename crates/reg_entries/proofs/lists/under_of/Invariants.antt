use Rattle.std.proofs.Common.{◌≡◌, map, take}
use Rattle.reg_entries.specs.Covered.{under}
use Rattle.reg_entries.proofs.lists.under_of.Given as goal

abbrev pub invariant-loop-stored_entry : goal.invariant-loop-stored_entry
invariant-loop-stored_entry l = map (λ e. e.now) l.found.items ≡ map (under l.delete) (map (λ e. e.now) (take l.stored_entry-index l.stored_entries))
