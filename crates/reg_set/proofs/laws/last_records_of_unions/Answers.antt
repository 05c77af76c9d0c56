use Rattle.reg_set.proofs.KeptLasts.{keeping_lasts_unites, last_records_of_union, last_records_of_insert}
use Rattle.reg_set.proofs.laws.last_records_of_unions.Goals as goal

pub returns-clause-union : goal.returns-clause-union
returns-clause-union c = keeping_lasts_unites

pub returns-clause-last_records : goal.returns-clause-last_records
returns-clause-last_records c = last_records_of_union

pub returns-clause-insert : goal.returns-clause-insert
returns-clause-insert c = last_records_of_insert
