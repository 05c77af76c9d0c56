use Rattle.reg_values.proofs.OfKeys.{values_are_of_keys}
use Rattle.reg_values.proofs.decoding.values_are_of_keys.Goals as goal

pub returns : goal.returns
returns c = values_are_of_keys
