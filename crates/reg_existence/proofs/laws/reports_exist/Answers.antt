use Rattle.reg_existence.proofs.Reports.{reports_exist}
use Rattle.reg_existence.proofs.laws.reports_exist.Goals as goal

pub returns : goal.returns
returns c = reports_exist c.verdicts_exist.ensures.schemas
