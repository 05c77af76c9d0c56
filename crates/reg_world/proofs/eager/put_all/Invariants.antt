use Rattle.std.proofs.Common.{◌≡◌, map, take}
use Rattle.std.specs.FinMap as finmap
use Rattle.reg_alike.specs.reg_entries.EntryOrder.{Place}
use Rattle.reg_world.specs.Eager.{standing_at}
use Rattle.reg_world.proofs.eager.put_all.Given as goal

abbrev pub invariant-loop-entry : goal.invariant-loop-entry
invariant-loop-entry l = (p : Place) → finmap.get l.standing p ≡ standing_at p (take l.entry-index (map (λ e. e.now) l.entries))
