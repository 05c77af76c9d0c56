use Rattle.std.proofs.Common.{◌≡◌, map, take}
use Rattle.reg_entries.specs.Covered.{shown_all}
use Rattle.reg_entries.proofs.lists.shown_of.Given as goal

abbrev pub invariant-loop-stored_entry : goal.invariant-loop-stored_entry
invariant-loop-stored_entry l = map (λ e. e.now) l.found.items ≡ shown_all l.deletes (map (λ e. e.now) (take l.stored_entry-index l.stored_entries))
