use Rattle.std.proofs.Common.{ap, sym, ◌∙◌}
use Rattle.std.proofs.lemmas.Result.{IfOk-weaker}
use Rattle.reg_entries.specs.Sought as sought
use Rattle.reg_fold.specs.Entries.{entries}
use Rattle.reg_fold.specs.Standing.{version_in}
use Rattle.reg_fold.proofs.Keeping.{values-kept}
use Rattle.reg_fold.proofs.registry.Registry.version.Goals as goal

pub returns-in-Latest : goal.returns-in-Latest
returns-in-Latest c =
    let all = values-kept c.self.inside.index c.self.invariant ∙ ap entries c.self.view_is in
    let latest = ap (λ version. version_in (entries c.args.self.now) c.args.subject.now version c.args.deleted) (sym c.in-Latest.is) in
    IfOk-weaker c.latest.result _ _ (λ found is.
    is ∙ ap (λ es. sought.latest es c.args.subject.now c.args.deleted) all ∙ latest) c.latest.ensures

pub returns-in-Number : goal.returns-in-Number
returns-in-Number c =
    let all = values-kept c.self.inside.index c.self.invariant ∙ ap entries c.self.view_is in
    let number = ap (λ version. version_in (entries c.args.self.now) c.args.subject.now version c.args.deleted) (sym c.in-Number.is) in
    IfOk-weaker c.of_version.result _ _ (λ found is.
    is ∙ ap (λ es. sought.of_version es c.args.subject.now c.in-Number.version c.args.deleted) all ∙ number) c.of_version.ensures
