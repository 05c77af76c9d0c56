use Rattle.std.proofs.Common.{◌≡◌, ◌≢◌, ◌↔◌, IfOk, ap, subst}
use Rattle.reg_set.specs.LastRecords.{last}
use Rattle.reg_set.specs.Records.{Records}
use Rattle.reg_set.specs.declared.record_set.TakeOutcome.TheVariants.{Fresh}
use Rattle.reg_floored.proofs.kept_set.KeptSet.take.Goals as goal

pub returns-clause-fresh : goal.returns-clause-fresh
returns-clause-fresh c =
    let key = c.args.given.now.key in
    let P : Records → Type 0 = λ s. IfOk c.take.result (λ taken. (taken ≡ Fresh) ↔ (last c.take.new.self key ≢ last s key)) in
    subst P (ap (λ s. s.records) c.self.view_is) c.take.ensures.fresh
