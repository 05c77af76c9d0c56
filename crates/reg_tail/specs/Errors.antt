-- What a program that follows a file ends with.
use Rattle.std.specs.Prelude.{ℕ, List, ◌++◌, codes, decimal}
use Rattle.reg_records.specs.Errors.{at_line, log_fault_name}
use Rattle.reg_tail.specs.declared.error.TailError.{TailError}
use Rattle.reg_tail.specs.declared.error.TailError.TheVariants.{Line, NoEmptyLine, Floor, ReadFault, SyncFault, WriteFault, OutOfMemory}

-- its text
abbrev pub tail_error_text : TailError → List ℕ
tail_error_text (Line line fault) = at_line line (log_fault_name fault)
tail_error_text NoEmptyLine = codes "no empty line"
tail_error_text (Floor floor) = codes "floor is " ++ decimal floor
tail_error_text ReadFault = codes "ReadFault"
tail_error_text SyncFault = codes "SyncFault"
tail_error_text WriteFault = codes "WriteFault"
tail_error_text OutOfMemory = codes "OutOfMemory"

-- the exit status of a program that ends with it
abbrev pub exit_status : TailError → ℕ
exit_status (Line line fault) = 2
exit_status NoEmptyLine = 2
exit_status (Floor floor) = 2
exit_status ReadFault = 1
exit_status SyncFault = 1
exit_status WriteFault = 1
exit_status OutOfMemory = 1
