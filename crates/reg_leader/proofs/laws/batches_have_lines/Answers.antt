use Rattle.reg_leader.proofs.Lines.{batches_have_lines}
use Rattle.reg_leader.proofs.laws.batches_have_lines.Goals as goal

pub returns : goal.returns
returns c =
    batches_have_lines c.entries_are_in_limits.ensures c.id_mark_is_in_limits.ensures
    c.entries_are_read.ensures c.normal_texts_read_back.ensures c.written_values_have_lines.ensures
