use Rattle.reg_inspection.proofs.Causes.{causes_are_of_opaque}
use Rattle.reg_inspection.proofs.laws.causes_are_of_opaque.Goals as goal

pub returns : goal.returns
returns c = causes_are_of_opaque
