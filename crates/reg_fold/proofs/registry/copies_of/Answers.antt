use Rattle.std.proofs.Common.{◌≡◌, rules}
use Rattle.std.proofs.lemmas.Result.{IfOk-weaker}
use Rattle.reg_values.specs.reg_records.contracts.record.RecordClone.TheImpl as record_clone
use Rattle.reg_values.specs.reg_records.declared.record.Record.{Record}
use Rattle.reg_fold.proofs.registry.copies_of.Goals as goal

record_copy : (a b : Record) → (record_clone.ghosts).is_clone a b → b ≡ a
record_copy a b h = search rules

pub returns : goal.returns
returns c = IfOk-weaker c.to_vec.result _ _ (λ v equal. equal record_copy) c.to_vec.ensures.items_if_clones_equal
