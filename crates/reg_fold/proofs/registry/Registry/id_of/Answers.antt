use Rattle.std.proofs.Common.{ap, ◌∙◌}
use Rattle.std.proofs.lemmas.Result.{IfOk-weaker}
use Rattle.std.specs.FinMap as finmap
use Rattle.reg_entries.specs.Sought as sought
use Rattle.reg_fold.specs.Entries.{entries}
use Rattle.reg_fold.proofs.Keeping.{values-kept}
use Rattle.reg_fold.proofs.Shown.{id_of-shown}
use Rattle.reg_fold.proofs.registry.Registry.id_of.Goals as goal

pub returns : goal.returns
returns c =
    let index = c.self.inside.index in
    let all = values-kept c.self.inside.index c.self.invariant ∙ ap entries c.self.view_is in
    IfOk-weaker c.id_of.result _ _ (λ found is.
    is
    ∙ id_of-shown index.deletes.of_subjects (finmap.values index.entries) c.args.normal.now
    ∙ ap (λ es. sought.id_of es c.args.normal.now) all) c.id_of.ensures
