use Rattle.reg_set.proofs.Unions.{merging_is_commutative, merging_is_associative, merging_is_idempotent, last_of_union}
use Rattle.reg_set.proofs.laws.merging_joins_sets.Goals as goal

pub returns-clause-commutative : goal.returns-clause-commutative
returns-clause-commutative c = merging_is_commutative

pub returns-clause-associative : goal.returns-clause-associative
returns-clause-associative c = merging_is_associative

pub returns-clause-idempotent : goal.returns-clause-idempotent
returns-clause-idempotent c = merging_is_idempotent

pub returns-clause-last : goal.returns-clause-last
returns-clause-last c = last_of_union
