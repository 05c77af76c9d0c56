use Rattle.reg_set.proofs.InOrder.{records_of-from_list}
use Rattle.reg_set.proofs.laws.records_are_listed_in_order.Goals as goal

pub returns : goal.returns
returns c = records_of-from_list
