use Rattle.reg_processes.proofs.Chains.{fronts_take_part}
use Rattle.reg_processes.proofs.laws.fronts_take_part.Goals as goal

pub returns : goal.returns
returns c = fronts_take_part c.lists_are_joined.ensures.lawful
