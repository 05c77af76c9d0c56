use Rattle.reg_adapter_chain.proofs.Courses.{asks_go_on, begins, hands_go_on, tells_go_on}
use Rattle.reg_adapter_chain.proofs.laws.handed_out_begins_the_chain.Goals as goal

pub returns-clause-begins : goal.returns-clause-begins
returns-clause-begins c = begins

pub returns-clause-tells : goal.returns-clause-tells
returns-clause-tells c = tells_go_on

pub returns-clause-asks : goal.returns-clause-asks
returns-clause-asks c = asks_go_on

pub returns-clause-hands : goal.returns-clause-hands
returns-clause-hands c = hands_go_on
