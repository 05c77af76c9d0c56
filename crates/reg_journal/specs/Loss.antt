-- Private: what a text that may be there or not makes of a batch.
use Rattle.reg_journal.specs.declared.gate.PutError.{PutError}
use Rattle.reg_journal.specs.declared.gate.PutError.TheVariants as puts
use Rattle.reg_journal.specs.declared.journal.AppendError.{AppendError}
use Rattle.reg_journal.specs.declared.journal.AppendError.TheVariants.{Changed, Unnamed, Failed}

abbrev pub loss_of : PutError → AppendError
loss_of puts.Changed = Changed
loss_of puts.Unnamed = Unnamed
loss_of puts.Failed = Failed
