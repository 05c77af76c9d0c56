-- The texts of the errors.
use Rattle.std.specs.Prelude.{ℕ, List, codes}
use Rattle.reg_records.specs.Errors.{at_line, line_error_name}
use Rattle.reg_adapter.specs.declared.fault.MessageError.{MessageError}
use Rattle.reg_adapter.specs.declared.fault.MessageError.TheVariants.{Fault, OutOfMemory}
use Rattle.reg_adapter.specs.declared.fault.MessageFault.{MessageFault}
use Rattle.reg_adapter.specs.declared.fault.MessageFault.TheVariants.{NoMessage, Line, EmptyBatch, Gap, Unended}

abbrev pub message_fault_name : MessageFault → List ℕ
message_fault_name NoMessage = codes "NoMessage"
message_fault_name (Line error) = line_error_name error
message_fault_name EmptyBatch = codes "EmptyBatch"
message_fault_name Gap = codes "Gap"
message_fault_name Unended = codes "Unended"

-- `line N: NAME`
abbrev pub message_error_text : MessageError → List ℕ
message_error_text (Fault line fault) = at_line line (message_fault_name fault)
message_error_text OutOfMemory = codes "out of memory"
