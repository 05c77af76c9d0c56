-- The texts of the errors: a bare name for each fault, and where it is in a log.
use Rattle.std.specs.Prelude.{ℕ, List, ◌++◌, codes, decimal}
use Rattle.reg_records.specs.declared.line.LineError.{LineError}
use Rattle.reg_records.specs.declared.line.LineError.TheVariants as line
use Rattle.reg_records.specs.declared.line.ReadLineError.{ReadLineError}
use Rattle.reg_records.specs.declared.line.ReadLineError.TheVariants as reading
use Rattle.reg_records.specs.declared.log.LogError.{LogError}
use Rattle.reg_records.specs.declared.log.LogError.TheVariants as log
use Rattle.reg_records.specs.declared.log.LogFault.{LogFault}
use Rattle.reg_records.specs.declared.log.LogFault.TheVariants as fault
use Rattle.reg_records.specs.declared.write.WriteLineError.{WriteLineError}
use Rattle.reg_records.specs.declared.write.WriteLineError.TheVariants as writing

abbrev pub line_error_name : LineError → List ℕ
line_error_name line.Truncated = codes "Truncated"
line_error_name line.TooLong = codes "TooLong"
line_error_name line.BadUtf8 = codes "BadUtf8"
line_error_name line.BadTabs = codes "BadTabs"
line_error_name line.BadOffset = codes "BadOffset"

abbrev pub log_fault_name : LogFault → List ℕ
log_fault_name (fault.Line e) = line_error_name e
log_fault_name fault.BadFloor = codes "BadFloor"
log_fault_name fault.TooManyLines = codes "TooManyLines"

abbrev pub read_line_error_text : ReadLineError → List ℕ
read_line_error_text (reading.Line e) = line_error_name e
read_line_error_text reading.OutOfMemory = codes "out of memory"

abbrev pub write_line_error_text : WriteLineError → List ℕ
write_line_error_text writing.TooLong = line_error_name line.TooLong
write_line_error_text writing.OutOfMemory = codes "out of memory"

-- `line N: NAME`
abbrev pub at_line : ℕ → List ℕ → List ℕ
at_line number name = codes "line " ++ decimal number ++ codes ": " ++ name

abbrev pub log_error_text : LogError → List ℕ
log_error_text (log.Fault number e) = at_line number (log_fault_name e)
log_error_text (log.ReadFault number) = at_line number (codes "ReadFault")
log_error_text log.OutOfMemory = codes "out of memory"
