use Rattle.reg_tail.proofs.Looks.{all_given, looks_give, not_again, passed_stand}
use Rattle.reg_tail.proofs.laws.looks_give_the_file.Goals as goal

pub returns-clause-given : goal.returns-clause-given
returns-clause-given c = looks_give

pub returns-clause-all : goal.returns-clause-all
returns-clause-all c = all_given

pub returns-clause-outlive : goal.returns-clause-outlive
returns-clause-outlive c = passed_stand

pub returns-clause-once : goal.returns-clause-once
returns-clause-once c = not_again
