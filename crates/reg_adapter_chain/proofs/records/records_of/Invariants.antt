use Rattle.std.proofs.Common.{◌≡◌, take}
use Rattle.reg_records.specs.Log.{records_in}
use Rattle.reg_adapter_chain.proofs.records.records_of.Given as goal

abbrev pub invariant-reads : goal.invariant-reads
invariant-reads l = l.records.items ≡ records_in (take l.read-index l.reads)
