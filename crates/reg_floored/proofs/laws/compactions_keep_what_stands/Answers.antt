use Rattle.reg_floored.proofs.Compactions.{last_of_compaction, standing_of_compaction}
use Rattle.reg_floored.proofs.laws.compactions_keep_what_stands.Goals as goal

pub returns-clause-last : goal.returns-clause-last
returns-clause-last c = last_of_compaction c.last_is_greatest.ensures.greatest c.last_is_greatest.ensures.none

pub returns-clause-standing : goal.returns-clause-standing
returns-clause-standing c =
    standing_of_compaction c.last_is_greatest.ensures.greatest c.last_is_greatest.ensures.none
    c.records_are_ordered.ensures.all c.records_are_ordered.ensures.apart
