use Rattle.reg_topic.proofs.Topics.{rise, stay_low}
use Rattle.reg_topic.proofs.laws.floors_stay_below.Goals as goal

pub returns-clause-below : goal.returns-clause-below
returns-clause-below c = stay_low

pub returns-clause-rise : goal.returns-clause-rise
returns-clause-rise c = rise
