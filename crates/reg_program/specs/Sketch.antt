-- What the sketch of the schemas in an input's first two lines does.
use Rattle.std.specs.Prelude.{◌≡◌, ◌⊎◌, ℕ, List, Option, Some, IfSome, Ok, Err, Contains}
use Rattle.std.specs.Io.KnownBytes.{Keeps}
use Rattle.avro_schema.specs.Schema.{Meaning, schema_of, faults}
use Rattle.avro_sketch.specs.Sketch.{IsSketch}
use Rattle.reg_records.specs.Device.{faults_of}
use Rattle.reg_records.specs.Log.{LosesLine}
use Rattle.reg_records.specs.TextLine.{front_text, after_front}
use Rattle.reg_records.specs.declared.device.Device.{Device}
use Rattle.reg_responses.specs.Writing.{AppendsFront, LosesWriter}
use Rattle.reg_program.specs.declared.sketching.SketchError.{SketchError}
use Rattle.reg_program.specs.declared.sketching.SketchError.TheVariants as errors
use Rattle.reg_program.specs.declared.spelling.SpellingFault.{SpellingFault}
use Rattle.reg_program.specs.declared.spelling.SpellingFault.TheVariants as kinds

-- the line at the front of an input spells that schema
abbrev pub SpellsSchema : List ℕ → Meaning → Type 0
SpellsSchema input schema = (text : List ℕ) × (front_text input ≡ Ok text) × (schema_of text ≡ Some schema)

-- the line at the front of an input has that fault, or its text has
abbrev pub HasFault : List ℕ → SpellingFault → Type 0
HasFault input (kinds.Line fault) = front_text input ≡ Err fault
HasFault input (kinds.Schema fault) = (text : List ℕ) × (front_text input ≡ Ok text) × Contains (faults text) fault

-- what is written for an input: the sketch of the schema in its first line, the reader's, and of that in its second, the writer's
abbrev pub Sketches : List ℕ → List ℕ → Type 0
Sketches input out = (r : Meaning) × (w : Meaning) × SpellsSchema input r × SpellsSchema (after_front input) w
    × IsSketch r.nodes w.nodes out

-- what stands after the two lines is left
abbrev pub LeavesRest : Option (List ℕ) → Option (List ℕ) → Type 0
LeavesRest old new = IfSome old (λ input. new ≡ Some (after_front (after_front input)))

-- Nothing else is written for an input.
abbrev pub HasOneSketch : List ℕ → Type 0
HasOneSketch input = (s t : List ℕ) → Sketches input s → Sketches input t → s ≡ t

-- why there is no sketch: the reader's text is not a schema, or the writer's; or the reader
-- of the input is lost in one of the lines, or there is no room
abbrev pub HasNoSketch : {R : Type 0} → Device R → Device R → Option (List ℕ) → SketchError → Type 0
HasNoSketch reader reader' input (errors.Reader fault) =
    (faults_of reader' ≡ faults_of reader) × IfSome input (λ text. HasFault text fault)
HasNoSketch reader reader' input (errors.Writer fault) =
    (faults_of reader' ≡ faults_of reader) × IfSome input (λ text. (r : Meaning) × SpellsSchema text r × HasFault (after_front text) fault)
HasNoSketch reader reader' input errors.ReadFault = LosesLine reader reader'
HasNoSketch reader reader' input errors.WriteFault = ⊥
HasNoSketch reader reader' input errors.OutOfMemory = faults_of reader' ≡ faults_of reader

-- the writer was lost, and has a front of the sketch
abbrev pub LosesSketch : {R W : Type 0} → Device R → Device R → Device W → Device W
    → Option (List ℕ) → Option (List ℕ) → Option (List ℕ) → Type 0
LosesSketch reader reader' writer writer' input old new = LosesWriter writer writer' × (faults_of reader' ≡ faults_of reader)
    × IfSome input (λ text. (out : List ℕ) × Sketches text out × AppendsFront old new out)

-- why a sketch wasn't written whole, what was written of it, and what the other device counted
abbrev pub IsSketchRefusal : {R W : Type 0} → Device R → Device R → Device W → Device W
    → Option (List ℕ) → Option (List ℕ) → Option (List ℕ) → SketchError → Type 0
IsSketchRefusal reader reader' writer writer' input old new error =
    (HasNoSketch reader reader' input error × (faults_of writer' ≡ faults_of writer) × Keeps old new)
    ⊎ ((error ≡ errors.WriteFault) × LosesSketch reader reader' writer writer' input old new)
