use Rattle.std.proofs.Common.{◌≡◌, subst}
use Rattle.reg_set.specs.LastRecords.{last_records}
use Rattle.reg_set.specs.Records.{Records}
use Rattle.reg_set.proofs.ByKey.{compact-set_of}
use Rattle.reg_set.proofs.last_records.LastRecords.is_compact.Goals as goal

pub returns : goal.returns
returns c =
    let P : Records → Type 0 = λ s. last_records s ≡ s in
    subst P c.self.view_is (compact-set_of c.self.inside.by_key c.self.invariant)
