-- What a writer has and counted once a text was written, or the writer was lost before its end.
use Rattle.std.specs.Prelude.{◌≡◌, ◌≢◌, ◌<◌, ◌⊎◌, ⊤, ℕ, List, ◌++◌, length, Option, Result, Ok, Err, MatchResult}
use Rattle.std.specs.Io.KnownBytes.{Appends}
use Rattle.std.specs.IoError.{error_kind}
use Rattle.std.specs.declared.io.Error.{Error}
use Rattle.std.specs.declared.io.ErrorKind.TheVariants.{Interrupted}
use Rattle.reg_leader.specs.reg_records.Device.{IsInterruptedMore, KeepsInterruptions, bytes_in, counted, faults_of, inner_of, interruptions_of}
use Rattle.reg_leader.specs.reg_records.declared.device.Device.{Device}
use Rattle.reg_responses.specs.declared.limits.TheConstants.{INTERRUPTION_LIMIT}

-- one fault was counted, by the last call; or none was, and the writer was interrupted as often in a row as may be
abbrev pub LosesWriter : {W : Type 0} → Device W → Device W → Type 0
LosesWriter before after = ((faults_of after ≡ counted (faults_of before)) × (interruptions_of after ≡ 0))
    ⊎ ((faults_of after ≡ faults_of before) × (interruptions_of after ≡ INTERRUPTION_LIMIT))

-- one fault was counted since, or as many interruptions came since as may come in a row
abbrev pub IsLostSince : {W : Type 0} → Device W → Device W → Type 0
IsLostSince before after = (faults_of after ≡ counted (faults_of before))
    ⊎ IsInterruptedMore before after INTERRUPTION_LIMIT

-- a front of the text was appended
abbrev pub AppendsFront : Option (List ℕ) → Option (List ℕ) → List ℕ → Type 0
AppendsFront old new text = (front : List ℕ) × (rest : List ℕ) × (text ≡ front ++ rest) × Appends old new front

-- the text was appended, nothing else, no fault was counted, and the last call wasn't interrupted
abbrev pub HasWritten : {W : Type 0} → (W → Option (List ℕ)) → Device W → Device W → List ℕ → Type 0
HasWritten contents before after text = Appends (bytes_in contents before) (bytes_in contents after) text
    × (faults_of after ≡ faults_of before) × (interruptions_of after ≡ 0) × KeepsInterruptions before after

-- the writer was lost, by what came since, and has a front of the text
abbrev pub HasFront : {W : Type 0} → (W → Option (List ℕ)) → Device W → Device W → List ℕ → Type 0
HasFront contents before after text =
    LosesWriter before after × AppendsFront (bytes_in contents before) (bytes_in contents after) text × IsLostSince before after

-- the text was written, or the writer was lost
abbrev pub Writes : {W A E : Type 0} → (W → Option (List ℕ)) → Device W → Device W → List ℕ → Result A E → Type 0
Writes contents before after text result =
    MatchResult result (λ _. HasWritten contents before after text) (λ _. HasFront contents before after text)

module _ {W : Type 0} (writes : W → List ℕ → Result ℕ Error → W → Type 0) (flushes : W → Result ⊤ Error → W → Type 0) where
  -- the writer's last call was a flush, which was Ok
  abbrev pub IsFlushed : Device W → Type 0
  IsFlushed after = (before : W) × flushes before (Ok tt) (inner_of after)

  -- the writer's last call answered that error
  abbrev pub HasFailed : Device W → Error → Type 0
  HasFailed after e = (before : W)
      × (flushes before (Err e) (inner_of after) ⊎ ((bytes : List ℕ) × writes before bytes (Err e) (inner_of after)))

  -- the writer's last call took none of some bytes
  abbrev pub HasTakenNone : Device W → Type 0
  HasTakenNone after = (before : W) × (bytes : List ℕ) × (0 < length bytes) × writes before bytes (Ok 0) (inner_of after)

  -- the writer's last call took nothing, or answered an error that is no interruption; or it was interrupted, as often in a row as may be
  abbrev pub IsLostBy : Device W → Type 0
  IsLostBy after =
      ((interruptions_of after ≡ 0) × (HasTakenNone after ⊎ ((e : Error) × (error_kind e ≢ Interrupted) × HasFailed after e)))
      ⊎ ((interruptions_of after ≡ INTERRUPTION_LIMIT) × (e : Error) × (error_kind e ≡ Interrupted) × HasFailed after e)

  -- at `Ok` the writer's last call was a flush that was Ok, and else the writer was lost by its last call
  abbrev pub Ends : {A E : Type 0} → Device W → Result A E → Type 0
  Ends after result = MatchResult result (λ _. IsFlushed after) (λ _. IsLostBy after)
