use Rattle.std.proofs.Common.{subst}
use Rattle.reg_world.specs.Headline.{IsReached}
use Rattle.reg_world.proofs.world.World.is_reached.Goals as goal

pub returns : goal.returns
returns c = subst IsReached c.self.view_is c.self.invariant
