use Rattle.reg_set.proofs.KeptLasts.{last_of_last_records, last_of_part, last_records_keep_lasts, last_records_of_part}
use Rattle.reg_set.proofs.laws.last_records_are_enough.Goals as goal

pub returns-clause-last_of_last : goal.returns-clause-last_of_last
returns-clause-last_of_last c = last_of_last_records

pub returns-clause-last : goal.returns-clause-last
returns-clause-last c = last_of_part

pub returns-clause-least : goal.returns-clause-least
returns-clause-least c = last_records_keep_lasts

pub returns-clause-last_records : goal.returns-clause-last_records
returns-clause-last_records c = last_records_of_part
