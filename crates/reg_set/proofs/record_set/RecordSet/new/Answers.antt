use Rattle.std.proofs.Common.{[], refl, ap, ◌∙◌}
use Rattle.std.specs.FinSet.{from_list}
use Rattle.std.specs.List.{flat_map}
use Rattle.std.specs.Map.{values_of}
use Rattle.reg_set.specs.Records.{records_of}
use Rattle.reg_set.proofs.InOrder.{records_of-from_list}
use Rattle.reg_set.proofs.Listed.{AreByKey-empty}
use Rattle.reg_set.proofs.record_set.RecordSet.new.Goals as goal

pub invariant_of-result : goal.invariant_of-result
invariant_of-result c = AreByKey-empty _ c.new.ensures.empty c.new.ensures.ordered

pub returns-clause-empty : goal.returns-clause-empty
returns-clause-empty c = ap (λ es. from_list (flat_map (λ v. v.items) (values_of es))) c.new.ensures.empty

pub returns-clause-no_records : goal.returns-clause-no_records
returns-clause-no_records c = ap records_of (returns-clause-empty c) ∙ records_of-from_list [] refl
