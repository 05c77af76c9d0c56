use Rattle.reg_program.proofs.Sketches.{one_sketch}
use Rattle.reg_program.proofs.sketching.sketch.Goals as goal

pub returns-in_err-text-clause-one_sketch : goal.returns-in_err-text-clause-one_sketch
returns-in_err-text-clause-one_sketch g c = one_sketch c.schemas_have_one_sketch.ensures

pub returns-in-Ok-clause-one_sketch : goal.returns-in-Ok-clause-one_sketch
returns-in-Ok-clause-one_sketch g c = one_sketch c.schemas_have_one_sketch.ensures

pub returns-clause-one_sketch : goal.returns-clause-one_sketch
returns-clause-one_sketch g c = one_sketch c.schemas_have_one_sketch.ensures
