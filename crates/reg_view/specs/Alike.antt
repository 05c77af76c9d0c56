-- Sets of last records that give the same are judged over alike.
use Rattle.reg_set.specs.Records.{Records}
use Rattle.reg_fold.specs.GiveAlike.{GiveAlike}
use Rattle.reg_leader.specs.declared.command.Command.{Command}
use Rattle.reg_levels.specs.Judgement.{Judgement}
use Rattle.reg_view.specs.Judging.{HasNoJudgement, IsJudgementOf, IsMatterOf, Matter}

-- over sets that give the same, each command has the same matter and the same judgements, or none
abbrev pub AlikeJudgesAlike : Type 0
AlikeJudgesAlike = (rs ss : Records) → GiveAlike rs ss → (c : Command)
    → ((m : Matter) → IsMatterOf rs c m → IsMatterOf ss c m)
    × ((j : Judgement) → IsJudgementOf rs c j → IsJudgementOf ss c j)
    × (HasNoJudgement rs c → HasNoJudgement ss c)
