-- How the program ends.
use Rattle.std.specs.Prelude.{ℕ, [], List, ◌++◌, codes, decimal, nat_lt, if◌then◌else◌}
use Rattle.avro_schema.specs.Schema.{error_name}
use Rattle.reg_records.specs.Errors.{at_line, line_error_name, log_fault_name}
use Rattle.reg_program.specs.declared.ended.Ended.{Ended}
use Rattle.reg_program.specs.declared.ended.Ended.TheVariants as ends
use Rattle.reg_program.specs.declared.folding.FoldError.{FoldError}
use Rattle.reg_program.specs.declared.folding.FoldError.TheVariants as errors
use Rattle.reg_program.specs.declared.sketching.SketchError.{SketchError}
use Rattle.reg_program.specs.declared.sketching.SketchError.TheVariants as sketches
use Rattle.reg_program.specs.declared.spelling.SpellingFault.{SpellingFault}
use Rattle.reg_program.specs.declared.spelling.SpellingFault.TheVariants as kinds

-- what is said of a fold that failed
abbrev pub error_text : FoldError → List ℕ
error_text (errors.Log line fault) = at_line line (log_fault_name fault)
error_text errors.ReadFault = codes "ReadFault"
error_text errors.WriteFault = codes "WriteFault"
error_text errors.OutOfMemory = codes "OutOfMemory"

-- the name of what is wrong with a schema's line
abbrev pub spelling_fault_name : SpellingFault → List ℕ
spelling_fault_name (kinds.Line fault) = line_error_name fault
spelling_fault_name (kinds.Schema fault) = error_name fault

-- what is said of a sketch that failed
abbrev pub sketch_error_text : SketchError → List ℕ
sketch_error_text (sketches.Reader fault) = codes "reader: " ++ spelling_fault_name fault
sketch_error_text (sketches.Writer fault) = codes "writer: " ++ spelling_fault_name fault
sketch_error_text sketches.ReadFault = codes "ReadFault"
sketch_error_text sketches.WriteFault = codes "WriteFault"
sketch_error_text sketches.OutOfMemory = codes "OutOfMemory"

-- what is written to standard error
abbrev pub errors_written : Ended → List ℕ
errors_written ends.Usage = codes "usage: registryd fold | registryd sketch | registryd serve PORT NODES WORKERS\n"
errors_written (ends.Folded folded) = if nat_lt 0 folded.foreign then codes "foreign " ++ decimal folded.foreign ++ codes "\n" else []
errors_written (ends.Failed error) = error_text error ++ codes "\n"
errors_written ends.Sketched = []
errors_written (ends.Unsketched error) = sketch_error_text error ++ codes "\n"

-- the exit status
abbrev pub exit_status : Ended → ℕ
exit_status ends.Usage = 2
exit_status (ends.Folded folded) = 0
exit_status (ends.Failed (errors.Log line fault)) = 2
exit_status (ends.Failed errors.ReadFault) = 1
exit_status (ends.Failed errors.WriteFault) = 1
exit_status (ends.Failed errors.OutOfMemory) = 1
exit_status ends.Sketched = 0
exit_status (ends.Unsketched (sketches.Reader fault)) = 2
exit_status (ends.Unsketched (sketches.Writer fault)) = 2
exit_status (ends.Unsketched sketches.ReadFault) = 1
exit_status (ends.Unsketched sketches.WriteFault) = 1
exit_status (ends.Unsketched sketches.OutOfMemory) = 1
