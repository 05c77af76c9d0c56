use Rattle.reg_entries.proofs.Least.{none_is_one_text_each, some_is_least_of_two}
use Rattle.reg_entries.proofs.laws.two_schemas_is_least.Goals as goal

pub returns-clause-none : goal.returns-clause-none
returns-clause-none c = none_is_one_text_each

pub returns-clause-least : goal.returns-clause-least
returns-clause-least c = some_is_least_of_two
