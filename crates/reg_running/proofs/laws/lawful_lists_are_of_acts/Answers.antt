use Rattle.reg_running.proofs.Acts.{acts_are_lawful, lists_are_of_acts}
use Rattle.reg_running.proofs.laws.lawful_lists_are_of_acts.Goals as goal

pub returns-clause-lists : goal.returns-clause-lists
returns-clause-lists c = lists_are_of_acts

pub returns-clause-lawful : goal.returns-clause-lawful
returns-clause-lawful c = acts_are_lawful
