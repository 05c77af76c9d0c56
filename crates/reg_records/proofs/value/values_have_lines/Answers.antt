use Rattle.reg_records.proofs.Shown.{HasLine-written_value}
use Rattle.reg_records.proofs.value.values_have_lines.Goals as goal

pub returns : goal.returns
returns c = HasLine-written_value
