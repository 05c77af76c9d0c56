use Rattle.std.proofs.Common.{ap, ◌∙◌}
use Rattle.std.proofs.lemmas.Result.{IfOk-weaker}
use Rattle.reg_entries.specs.Sought as sought
use Rattle.reg_fold.specs.Entries.{entries}
use Rattle.reg_fold.proofs.Keeping.{values-kept}
use Rattle.reg_fold.proofs.registry.Registry.subjects.Goals as goal

pub returns : goal.returns
returns c =
    let all = values-kept c.self.inside.index c.self.invariant ∙ ap entries c.self.view_is in
    IfOk-weaker c.subjects.result _ _ (λ found is. is ∙ ap (λ es. sought.subjects es c.args.deleted) all) c.subjects.ensures
