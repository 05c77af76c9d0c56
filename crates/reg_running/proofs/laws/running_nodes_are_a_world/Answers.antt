use Rattle.reg_running.proofs.Weave.{are_woven}
use Rattle.reg_running.proofs.World.{are_a_world}
use Rattle.reg_running.proofs.laws.running_nodes_are_a_world.Goals as goal

pub returns-clause-world : goal.returns-clause-world
returns-clause-world c = let o = c.records_are_ordered.ensures in are_a_world o.all o.apart

pub returns-clause-woven : goal.returns-clause-woven
returns-clause-woven c = are_woven
