-- What the program does, by the words of its command line.
use Rattle.std.specs.Prelude.{◌≡◌, ◌≤◌, ⊤, ℕ, List, Option, IfSome, Result}
use Rattle.std.specs.Io.KnownBytes.{Appends}
use Rattle.std.specs.declared.io.Error.{Error}
use Rattle.reg_http.specs.Ends.{EndsAfter}
use Rattle.reg_messages.specs.declared.limits.TheConstants.{REQUEST_READS}
use Rattle.reg_records.specs.Device.{bytes_in, faults_of, interruptions_of, reads_of}
use Rattle.reg_records.specs.declared.device.Device.{Device}
use Rattle.reg_responses.specs.declared.limits.TheConstants.{INTERRUPTION_LIMIT}
use Rattle.reg_program.specs.Ended.{errors_written, exit_status}
use Rattle.reg_program.specs.Fold.{EndsFoldRefused, Folds, IsFoldRefusal}
use Rattle.reg_program.specs.Sketch.{IsSketchRefusal, LeavesRest, Sketches}
use Rattle.reg_program.specs.Telling.{Tells}
use Rattle.reg_program.specs.declared.ended.Ended.{Ended}
use Rattle.reg_program.specs.declared.ended.Ended.TheVariants as ends
use Rattle.reg_program.specs.declared.words.ProgramCommand.{ProgramCommand}
use Rattle.reg_program.specs.declared.words.ProgramCommand.TheVariants as commands

-- standard error says how the program ends, and the status is that end's
abbrev pub EndsAs : {E : Type 0} → (E → Option (List ℕ)) → Device E → Device E → ℕ → Ended → Type 0
EndsAs contents errors errors' status ended = Tells contents errors errors' (errors_written ended) × (status ≡ exit_status ended)

-- the reader and the writer of one fold, before and after it, where it ends so
abbrev pub FoldGives : {R W : Type 0} → (R → Option (List ℕ)) → (W → Option (List ℕ))
    → (W → List ℕ → Result ℕ Error → W → Type 0) → (W → Result ⊤ Error → W → Type 0)
    → Device R → Device R → Device W → Device W → Ended → Type 0
FoldGives remaining contents writes flushes reader reader' writer writer' (ends.Folded folded) =
    IfSome (bytes_in remaining reader)
    (λ input. (out : List ℕ) × Folds input folded out × Appends (bytes_in contents writer) (bytes_in contents writer') out)
    × (faults_of reader' ≡ faults_of reader) × (faults_of writer' ≡ faults_of writer)
    × (reads_of reader' ≤ REQUEST_READS) × (interruptions_of writer' ≤ INTERRUPTION_LIMIT)
    × EndsAfter writes flushes folded.requests writer writer'
FoldGives remaining contents writes flushes reader reader' writer writer' (ends.Failed error) =
    IsFoldRefusal remaining contents reader reader' writer writer' error × EndsFoldRefused writes flushes writer writer' error
FoldGives remaining contents writes flushes reader reader' writer writer' ended = ⊥

-- the reader and the writer of one sketch, before and after it, where it ends so
abbrev pub SketchGives : {R W : Type 0} → (R → Option (List ℕ)) → (W → Option (List ℕ))
    → Device R → Device R → Device W → Device W → Ended → Type 0
SketchGives remaining contents reader reader' writer writer' ends.Sketched =
    IfSome (bytes_in remaining reader)
    (λ input. (out : List ℕ) × Sketches input out × Appends (bytes_in contents writer) (bytes_in contents writer') out)
    × LeavesRest (bytes_in remaining reader) (bytes_in remaining reader')
    × (faults_of reader' ≡ faults_of reader) × (faults_of writer' ≡ faults_of writer) × (interruptions_of writer' ≡ 0)
SketchGives remaining contents reader reader' writer writer' (ends.Unsketched error) = IsSketchRefusal reader reader' writer writer'
    (bytes_in remaining reader) (bytes_in contents writer) (bytes_in contents writer') error
SketchGives remaining contents reader reader' writer writer' ended = ⊥

-- What the program does for a command, by its reader, its writer, standard error and what serves, each before and after it, and
-- its status. Words that are no command read and write nothing; a fold folds once, a sketch sketches once; and what serves is
-- called once, for that command alone, and its result is the status.
abbrev pub Runs : {R W E S : Type 0} → (R → Option (List ℕ)) → (W → Option (List ℕ))
    → (W → List ℕ → Result ℕ Error → W → Type 0) → (W → Result ⊤ Error → W → Type 0)
    → (E → Option (List ℕ)) → (S → ℕ → ℕ → ℕ → ℕ → S → Type 0)
    → Device R → Device R → Device W → Device W → Device E → Device E → S → S → ℕ → ProgramCommand → Type 0
Runs remaining contents writes flushes told step reader reader' writer writer' errors errors' serve serve' status commands.Usage =
    (reader' ≡ reader) × (writer' ≡ writer) × (serve' ≡ serve) × EndsAs told errors errors' status ends.Usage
Runs remaining contents writes flushes told step reader reader' writer writer' errors errors' serve serve' status commands.Fold =
    (serve' ≡ serve) × (ended : Ended) × FoldGives remaining contents writes flushes reader reader' writer writer' ended
    × EndsAs told errors errors' status ended
Runs remaining contents writes flushes told step reader reader' writer writer' errors errors' serve serve' status commands.Sketch =
    (serve' ≡ serve) × (ended : Ended) × SketchGives remaining contents reader reader' writer writer' ended
    × EndsAs told errors errors' status ended
Runs remaining contents writes flushes told step reader reader' writer writer' errors errors' serve serve' status
    (commands.Serve port nodes workers) =
    (reader' ≡ reader) × (writer' ≡ writer) × (errors' ≡ errors) × step serve port nodes workers status serve'
