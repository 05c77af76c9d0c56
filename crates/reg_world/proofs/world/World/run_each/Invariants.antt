use Rattle.std.proofs.Common.{◌≡◌, length, take}
use Rattle.reg_world.specs.Runs.{Runs}
use Rattle.reg_world.proofs.world.World.run_each.Given as goal

abbrev pub invariant-loop-event : goal.invariant-loop-event
invariant-loop-event l = record {
  counted : length l.outcomes.items ≡ l.event-index;
  ran : Runs l.fn.self (take l.event-index l.events) l.outcomes.items l.self;
}
