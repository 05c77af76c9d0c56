use Rattle.reg_set.proofs.Orders.{record_cmp-total, record_cmp-ties, age_cmp-total, key_cmp-total, key_cmp-ties}
use Rattle.reg_set.proofs.laws.records_are_ordered.Goals as goal

pub returns-clause-all : goal.returns-clause-all
returns-clause-all c = record_cmp-total

pub returns-clause-apart : goal.returns-clause-apart
returns-clause-apart c = record_cmp-ties

pub returns-clause-of_one_key : goal.returns-clause-of_one_key
returns-clause-of_one_key c = age_cmp-total

pub returns-clause-keys : goal.returns-clause-keys
returns-clause-keys c = key_cmp-total

pub returns-clause-keys_apart : goal.returns-clause-keys_apart
returns-clause-keys_apart c = key_cmp-ties
