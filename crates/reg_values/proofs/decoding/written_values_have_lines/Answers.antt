use Rattle.reg_values.proofs.OfKeys.{has_numbers_in_limits}
use Rattle.reg_values.proofs.decoding.written_values_have_lines.Goals as goal

pub returns : goal.returns
returns c = λ offset k v fits key is. c.values_have_lines.ensures offset k v fits key (has_numbers_in_limits k v is)
