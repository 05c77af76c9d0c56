use Rattle.std.proofs.Common.{◌≡◌, take}
use Rattle.std.specs.FinMap as finmap
use Rattle.reg_alike.specs.reg_entries.EntryOrder.{Place}
use Rattle.reg_world.specs.Eager.{eager_after}
use Rattle.reg_world.proofs.eager.fold_eagerly.Given as goal

abbrev pub invariant-loop-item : goal.invariant-loop-item
invariant-loop-item l = (p : Place) → finmap.get l.standing p ≡ eager_after l.base (take l.item-index l.items) p
