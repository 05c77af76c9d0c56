use Rattle.reg_values.proofs.ReadsBack.{value_of-written_value}
use Rattle.reg_values.proofs.decoding.written_values_read_back.Goals as goal

pub returns : goal.returns
returns c = value_of-written_value c.compact_texts_read_back.ensures
