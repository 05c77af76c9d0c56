use Rattle.reg_fold.proofs.IdMark.{id_mark-in_limits}
use Rattle.reg_fold.proofs.laws.id_mark_is_in_limits.Goals as goal

pub returns : goal.returns
returns c = id_mark-in_limits c.values_are_of_keys.ensures
