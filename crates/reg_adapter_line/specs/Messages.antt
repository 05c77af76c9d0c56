-- Which message is which.
use Rattle.std.specs.Prelude.{Bool, true, false}
use Rattle.reg_adapter.specs.declared.told.AdapterMessage.{AdapterMessage}
use Rattle.reg_adapter.specs.declared.told.AdapterMessage.TheVariants.{Batch, Answer, Ready}

abbrev pub is_ready_message : AdapterMessage → Bool
is_ready_message (Batch reads) = false
is_ready_message (Answer said) = false
is_ready_message Ready = true
