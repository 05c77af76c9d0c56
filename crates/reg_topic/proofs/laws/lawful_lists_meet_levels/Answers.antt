use Rattle.reg_topic.proofs.Promises.{meet_levels}
use Rattle.reg_topic.proofs.laws.lawful_lists_meet_levels.Goals as goal

pub returns : goal.returns
returns c = meet_levels c.steps_meet_levels.ensures
