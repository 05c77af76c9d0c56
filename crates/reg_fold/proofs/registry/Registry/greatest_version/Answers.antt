use Rattle.std.proofs.Common.{ap, ◌∙◌}
use Rattle.std.specs.FinMap as finmap
use Rattle.reg_entries.specs.Sought as sought
use Rattle.reg_fold.specs.Entries.{entries}
use Rattle.reg_fold.proofs.Keeping.{values-kept}
use Rattle.reg_fold.proofs.Shown.{greatest_version-shown}
use Rattle.reg_fold.proofs.registry.Registry.greatest_version.Goals as goal

pub returns : goal.returns
returns c =
    let index = c.self.inside.index in
    let all = values-kept c.self.inside.index c.self.invariant ∙ ap entries c.self.view_is in
    c.greatest_version.ensures
    ∙ greatest_version-shown index.deletes.of_subjects (finmap.values index.entries) c.args.subject.now
    ∙ ap (λ es. sought.greatest_version es c.args.subject.now) all
