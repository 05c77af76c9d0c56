use Rattle.reg_inspection.proofs.Tallies.{tallies_have_each, tallies_rise}
use Rattle.reg_inspection.proofs.laws.tallies_have_each_keytype.Goals as goal

pub returns : goal.returns
returns c = record { rise = tallies_rise; each = tallies_have_each }
