use Rattle.reg_intake.proofs.Fronts.{first_records}
use Rattle.reg_intake.proofs.laws.first_records_are_of_first_lines.Goals as goal

pub returns : goal.returns
returns c = first_records
