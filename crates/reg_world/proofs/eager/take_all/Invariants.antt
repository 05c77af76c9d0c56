use Rattle.std.proofs.Common.{◌≡◌, take}
use Rattle.std.specs.FinMap as finmap
use Rattle.reg_alike.specs.reg_entries.EntryOrder.{Place}
use Rattle.reg_world.specs.Eager.{after_records}
use Rattle.reg_world.proofs.eager.take_all.Given as goal

abbrev pub invariant-loop-given : goal.invariant-loop-given
invariant-loop-given l =
    (p : Place) → finmap.get l.standing p ≡ after_records p (finmap.get l.initial.standing p) (take l.given-index l.records)
