use Rattle.std.proofs.Common.{◌≡◌, ◌≤◌, take}
use Rattle.std.specs.List.{count_by}
use Rattle.reg_inspection.proofs.counts.count_soft.Given as goal

abbrev pub invariant-loop-entry : goal.invariant-loop-entry
invariant-loop-entry l = (l.count ≡ count_by (λ e. e.now.soft) (take l.entry-index l.entries)) × (l.count ≤ l.entry-index)
