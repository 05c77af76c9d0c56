-- Sets of last records that give the same answer alike.
use Rattle.std.specs.Prelude.{◌↔◌}
use Rattle.reg_leader.specs.reg_set.Records.{Records}
use Rattle.reg_floored.specs.Compaction.{IsCompactionOf}
use Rattle.reg_floored.specs.Floored.{Floored}
use Rattle.reg_lookup.specs.Answers.{IsAnswer, IsAnswerOver}
use Rattle.reg_lookup.specs.declared.answered.Answer.{Answer}
use Rattle.reg_lookup.specs.declared.query.Query.{Query}
use Rattle.reg_leader.specs.reg_fold.GiveAlike.{GiveAlike}

-- each query has the same answers over both
abbrev pub AlikeAnswersAlike : Type 0
AlikeAnswersAlike = (rs ss : Records) → GiveAlike rs ss → (query : Query) (a : Answer) → IsAnswer rs query a ↔ IsAnswer ss query a

-- so over a set and each of its compactions, at whatever floor
abbrev pub CompactionsAnswerAlike : Type 0
CompactionsAnswerAlike = (part whole : Floored) → IsCompactionOf part whole → (query : Query) (a : Answer)
    → IsAnswerOver part.records query a ↔ IsAnswerOver whole.records query a
