-- Private: why a line spells no schema.
use Rattle.std.specs.Prelude.{◌≡◌, ⊤, ℕ, List, Option, IfSome, Contains}
use Rattle.avro_schema.specs.Schema.{faults}
use Rattle.reg_records.specs.Device.{faults_of}
use Rattle.reg_records.specs.Log.{LosesLine}
use Rattle.reg_records.specs.declared.device.Device.{Device}
use Rattle.reg_program.specs.Sketch.{HasFault}
use Rattle.reg_program.specs.declared.sketching.SketchError.{SketchError}
use Rattle.reg_program.specs.declared.sketching.SketchError.TheVariants as sketches
use Rattle.reg_program.specs.declared.spelling.SpellingFault.TheVariants as kinds
use Rattle.reg_program.specs.declared.spelling.SpellingError.{SpellingError}
use Rattle.reg_program.specs.declared.spelling.SpellingError.TheVariants as errors

-- why a text is no schema's
abbrev pub IsTextRefused : List ℕ → SpellingError → Type 0
IsTextRefused text (errors.Fault (kinds.Line fault)) = ⊥
IsTextRefused text (errors.Fault (kinds.Schema fault)) = Contains (faults text) fault
IsTextRefused text errors.ReadFault = ⊥
IsTextRefused text errors.OutOfMemory = ⊤

-- why no schema was read from the line at the front of an input
abbrev pub IsSpellingRefusal : {R : Type 0} → Device R → Device R → Option (List ℕ) → SpellingError → Type 0
IsSpellingRefusal before after input (errors.Fault fault) = (faults_of after ≡ faults_of before)
    × IfSome input (λ text. HasFault text fault)
IsSpellingRefusal before after input errors.ReadFault = LosesLine before after
IsSpellingRefusal before after input errors.OutOfMemory = faults_of after ≡ faults_of before

-- why there is no sketch where the reader's schema wasn't read
abbrev pub as_readers : SpellingError → SketchError
as_readers (errors.Fault fault) = sketches.Reader fault
as_readers errors.ReadFault = sketches.ReadFault
as_readers errors.OutOfMemory = sketches.OutOfMemory

-- and where the writer's wasn't
abbrev pub as_writers : SpellingError → SketchError
as_writers (errors.Fault fault) = sketches.Writer fault
as_writers errors.ReadFault = sketches.ReadFault
as_writers errors.OutOfMemory = sketches.OutOfMemory
