use Rattle.reg_inspection.proofs.Apart.{shared_ids_name_two, shared_ids_rise}
use Rattle.reg_inspection.proofs.laws.shared_ids_name_two.Goals as goal

pub returns : goal.returns
returns c = record { rise = shared_ids_rise; name = shared_ids_name_two }
