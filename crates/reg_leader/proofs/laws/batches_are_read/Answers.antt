use Rattle.reg_leader.proofs.Lines.{batches_are_read}
use Rattle.reg_leader.proofs.laws.batches_are_read.Goals as goal

pub returns : goal.returns
returns c =
    batches_are_read c.entries_are_in_limits.ensures c.id_mark_is_in_limits.ensures
    c.entries_are_read.ensures c.normal_texts_read_back.ensures c.written_values_read_back.ensures
