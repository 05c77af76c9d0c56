use Rattle.reg_inspection.proofs.Nothing.{no_obstacle_is_open}
use Rattle.reg_inspection.proofs.laws.no_obstacle_is_open.Goals as goal

pub returns : goal.returns
returns c = no_obstacle_is_open c.causes_are_of_opaque.ensures c.two_schemas_is_least.ensures.none
