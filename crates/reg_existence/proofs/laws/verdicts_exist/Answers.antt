use Rattle.reg_existence.proofs.Reports.{level_verdicts_exist}
use Rattle.reg_existence.proofs.Verdicts.{verdict_exists}
use Rattle.reg_existence.proofs.laws.verdicts_exist.Goals as goal

pub returns-clause-schemas : goal.returns-clause-schemas
returns-clause-schemas c = verdict_exists

pub returns-clause-levels : goal.returns-clause-levels
returns-clause-levels c = level_verdicts_exist verdict_exists
