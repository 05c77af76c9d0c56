use Rattle.std.proofs.Common.{ap, ◌∙◌}
use Rattle.std.specs.FinMap as finmap
use Rattle.reg_entries.specs.Sought as sought
use Rattle.reg_fold.specs.Entries.{entries}
use Rattle.reg_fold.proofs.Keeping.{values-kept}
use Rattle.reg_fold.proofs.Shown.{greatest_id-shown}
use Rattle.reg_fold.proofs.registry.Registry.greatest_id.Goals as goal

pub returns : goal.returns
returns c =
    let index = c.self.inside.index in
    let all = values-kept c.self.inside.index c.self.invariant ∙ ap entries c.self.view_is in
    c.greatest_id.ensures ∙ greatest_id-shown index.deletes.of_subjects (finmap.values index.entries) ∙ ap (λ es. sought.greatest_id es) all
