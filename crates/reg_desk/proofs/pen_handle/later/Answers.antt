use Rattle.std.proofs.Common.{ap, ◌++◌}
use Rattle.reg_desk.specs.Desk.{front_of}
use Rattle.reg_desk.proofs.pen_handle.later.Goals as goal

pub returns-in-None-clause-grows : goal.returns-in-None-clause-grows
returns-in-None-clause-grows g c = (c.args.told, ap (λ b. front_of b ++ c.args.told) c.in-None.is)
