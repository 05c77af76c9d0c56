use Rattle.std.proofs.Common.{ap, subst, sym, ◌∙◌}
use Rattle.std.proofs.lemmas.Result.{IfOk-weaker}
use Rattle.reg_fold.specs.Entries.{AreOfLasts, entries}
use Rattle.reg_fold.proofs.Keeping.{values-kept}
use Rattle.reg_fold.proofs.registry.Registry.entries.Goals as goal

pub returns-clause-all : goal.returns-clause-all
returns-clause-all c =
    let all = values-kept c.self.inside.index c.self.invariant ∙ ap entries c.self.view_is in
    IfOk-weaker c.all_shown.result _ _ (λ found is. is ∙ all) c.all_shown.ensures.all

pub returns-clause-given : goal.returns-clause-given
returns-clause-given c =
    let all = values-kept c.self.inside.index c.self.invariant ∙ ap entries c.self.view_is in
    let given = subst (λ rs. AreOfLasts rs (entries rs)) c.self.view_is c.entries_given.ensures.given in
    IfOk-weaker c.all_shown.result _ _ (λ found is. subst (AreOfLasts c.args.self.now) (sym (is ∙ all)) given) c.all_shown.ensures.all
