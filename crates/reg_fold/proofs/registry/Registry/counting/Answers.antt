use Rattle.std.proofs.Common.{ap, ◌∙◌}
use Rattle.std.proofs.lemmas.Result.{IfOk-weaker}
use Rattle.reg_entries.specs.Sought as sought
use Rattle.reg_fold.specs.Entries.{entries}
use Rattle.reg_fold.proofs.Keeping.{values-kept}
use Rattle.reg_fold.proofs.registry.Registry.counting.Goals as goal

pub returns-clause-all : goal.returns-clause-all
returns-clause-all c =
    let all = values-kept c.self.inside.index c.self.invariant ∙ ap entries c.self.view_is in
    IfOk-weaker c.counting.result _ _ (λ found is.
    is ∙ ap (λ es. sought.counting es c.args.subject.now c.args.deleted) all) c.counting.ensures.all
