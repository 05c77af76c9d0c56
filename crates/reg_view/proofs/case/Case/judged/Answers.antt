use Rattle.std.proofs.Common.{IfErr, IfOk, subst}
use Rattle.reg_levels.specs.JudgedError.{IsJudgedRefusal}
use Rattle.reg_levels.specs.Judgement.{IsMadeOf}
use Rattle.reg_view.specs.Judging.{Matter}
use Rattle.reg_view.proofs.case.Case.judged.Goals as goal

pub returns-clause-made : goal.returns-clause-made
returns-clause-made c =
    let r = c.judged.result in
    subst (λ (m : Matter). IfOk r (λ j. IsMadeOf j m.standing.level m.new_text m.standing.olds)) c.self.view_is c.judged.ensures.made

pub returns-clause-refused : goal.returns-clause-refused
returns-clause-refused c =
    let r = c.judged.result in
    subst (λ (m : Matter). IfErr r (IsJudgedRefusal m.new_text m.standing.olds)) c.self.view_is c.judged.ensures.refused
