-- What the program does from its start on.
use Rattle.std.specs.Prelude.{◌≡◌, ◌⊎◌, ⊤, ℕ, List, Option, Result, Ok, Err, map, string_bytes}
use Rattle.std.specs.Global.{Vec, Global}
use Rattle.std.specs.declared.alloc.AllocError.{AllocError}
use Rattle.std.specs.declared.io.Error.{Error}
use Rattle.std.specs.declared.string.String.{String}
use Rattle.reg_records.specs.Device.{all_interruptions_of, all_reads_of, begun_of, faults_of, inner_of, interruptions_of, place_of, reads_of}
use Rattle.reg_records.specs.declared.device.Device.{Device}
use Rattle.reg_program.specs.Running.{EndsAs, Runs}
use Rattle.reg_program.specs.Words.{command_of}
use Rattle.reg_program.specs.declared.ended.Ended.TheVariants as ends
use Rattle.reg_program.specs.declared.folding.FoldError.TheVariants as faults

-- a device round that stream, which has counted nothing
abbrev pub IsNew : {T : Type 0} → T → Device T → Type 0
IsNew stream device = (inner_of device ≡ stream) × (faults_of device ≡ 0) × (reads_of device ≡ 0) × (all_reads_of device ≡ 0)
    × (place_of device ≡ 0) × (begun_of device ≡ 0) × (interruptions_of device ≡ 0) × (all_interruptions_of device ≡ 0)

module _ {I R W : Type 0} (has_words : I → Result (Vec (String Global)) AllocError → Type 0) (has_input : I → Result R AllocError → Type 0)
    (has_output : I → Result W AllocError → Type 0) where
  -- the invocation's words, and new devices round its standard input and its standard output
  abbrev pub IsOpened : I → Vec (String Global) → Device R → Device W → Type 0
  IsOpened invocation words reader writer = has_words invocation (Ok words)
      × ((input : R) × has_input invocation (Ok input) × IsNew input reader)
      × ((output : W) × has_output invocation (Ok output) × IsNew output writer)

  -- the invocation refused one of them
  abbrev pub IsUnopened : I → Type 0
  IsUnopened invocation = (refused : AllocError)
      × (has_words invocation (Err refused) ⊎ (has_input invocation (Err refused) ⊎ has_output invocation (Err refused)))

-- What is done once standard error is open, by an invocation, by standard error and by what serves, each before and after it, and by
-- the status: what the invocation's words ask for, over its streams; or the words or a stream were refused, which standard error and
-- the status say, and what serves isn't called.
abbrev pub Begins : {I R W E S : Type 0} → (I → Result (Vec (String Global)) AllocError → Type 0) → (I → Result R AllocError → Type 0)
    → (I → Result W AllocError → Type 0) → (R → Option (List ℕ)) → (W → Option (List ℕ))
    → (W → List ℕ → Result ℕ Error → W → Type 0) → (W → Result ⊤ Error → W → Type 0)
    → (E → Option (List ℕ)) → (S → ℕ → ℕ → ℕ → ℕ → S → Type 0) → I → Device E → Device E → S → S → ℕ → Type 0
Begins {I} {R} {W} has_words has_input has_output remaining contents writes flushes told step invocation errors errors' serve serve' status =
    ((words : Vec (String Global)) × (reader : Device R) × (reader' : Device R) × (writer : Device W) × (writer' : Device W)
    × IsOpened has_words has_input has_output invocation words reader writer
    × Runs remaining contents writes flushes told step reader reader' writer writer' errors errors' serve serve' status
    (command_of (map string_bytes words.items)))
    ⊎ (IsUnopened has_words has_input has_output invocation × (serve' ≡ serve)
    × EndsAs told errors errors' status (ends.Failed faults.OutOfMemory))

-- What the program does, by an invocation, by what serves, before and after it, and by its status: all of it over new devices round the
-- invocation's streams.
abbrev pub Starts : {I R W E S : Type 0} → (I → Result (Vec (String Global)) AllocError → Type 0) → (I → Result R AllocError → Type 0)
    → (I → Result W AllocError → Type 0) → (I → E → Type 0) → (R → Option (List ℕ)) → (W → Option (List ℕ))
    → (W → List ℕ → Result ℕ Error → W → Type 0) → (W → Result ⊤ Error → W → Type 0)
    → (E → Option (List ℕ)) → (S → ℕ → ℕ → ℕ → ℕ → S → Type 0) → I → S → S → ℕ → Type 0
Starts {I} {R} {W} {E} has_words has_input has_output has_errors remaining contents writes flushes told step invocation serve serve' status =
    (stream : E) × (errors : Device E) × (errors' : Device E) × has_errors invocation stream × IsNew stream errors
    × Begins has_words has_input has_output remaining contents writes flushes told step invocation errors errors' serve serve' status
