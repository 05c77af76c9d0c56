use Rattle.std.proofs.Common.{refl, sym, subst}
use Rattle.std.proofs.lemmas.Result.{IfOk-weaker}
use Rattle.reg_follow.specs.Following.{Following, HasTaken}
use Rattle.reg_follow.proofs.Taking.{came_to, refused}
use Rattle.reg_follow.proofs.intake.Intake.next_line.Goals as goal

pub returns-clause-came : goal.returns-clause-came
returns-clause-came g c text read has =
    let here = subst (λ (s : Following). HasTaken text read s) (sym c.self.view_is) has in
    IfOk-weaker c.next.result _ _
    (λ came comes. came_to text read came _ _ c.args.self.now c.self.view_is refl refl here comes)
    (c.next.ensures.came text read here.has)

pub returns-clause-refused : goal.returns-clause-refused
returns-clause-refused g c text read has =
    let here = subst (λ (s : Following). HasTaken text read s) (sym c.self.view_is) has in
    refused text read c.next.result _ _ refl refl here c.next.ensures.same c.next.ensures.refused
