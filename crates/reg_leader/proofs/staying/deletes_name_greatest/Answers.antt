use Rattle.reg_leader.proofs.SoftDeletes.{deletes_name_greatest}
use Rattle.reg_leader.proofs.staying.deletes_name_greatest.Goals as goal

pub returns : goal.returns
returns c = deletes_name_greatest c.entries_are_in_limits.ensures
