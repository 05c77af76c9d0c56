use Rattle.std.proofs.Common.{sym, subst, arith}
use Rattle.reg_set.specs.Records.{Records}
use Rattle.reg_floored.specs.Compaction.{IsCompactionOf}
use Rattle.reg_floored.specs.Floored.{Floored}
use Rattle.reg_floored.proofs.kept_set.KeptSet.compact_to.Goals as goal

pub returns-clause-compaction : goal.returns-clause-compaction
returns-clause-compaction c =
    let floor = c.args.floor in
    let own : Floored = record { records = c.self.inside.set; floor = c.self.inside.floor } in
    let OfWhole : Floored → Type 0 = λ s. IsCompactionOf (record { records = c.in_ok-self-inside.field-0; floor = floor }) s in
    let IsOne : Records → Type 0 = λ s. IsCompactionOf (record { records = s; floor = floor }) own in
    subst OfWhole c.self.view_is (
    subst IsOne (sym c.in_ok-self-inside.ensures) (c.last_records_are_compactions.ensures.to_floor own floor (omega arith)))
