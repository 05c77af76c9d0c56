use Rattle.std.proofs.Common.{◌≡◌, map, take}
use Rattle.reg_inspection.specs.Shared.{ids_of}
use Rattle.reg_inspection.proofs.ids.ids_of.Given as goal

abbrev pub invariant-loop-entry : goal.invariant-loop-entry
invariant-loop-entry l = l.ids.keys ≡ ids_of (map (λ e. e.now) (take l.entry-index l.entries))
