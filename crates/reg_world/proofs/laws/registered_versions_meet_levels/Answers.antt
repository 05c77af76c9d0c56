use Rattle.reg_world.proofs.Answers.{levels}
use Rattle.reg_world.proofs.laws.registered_versions_meet_levels.Goals as goal

pub returns : goal.returns
returns c = levels c.lower_laws.ensures c.lawful_lists_meet_levels.ensures
