-- What is taken from a reader in one read, and how a reader is lost.
use Rattle.std.specs.Prelude.{◌≡◌, ◌⊎◌, ◌≤◌, ℕ, ◌+◌, ◌-◌, List, [], ◌∷◌, length, Option, Some, None}
use Rattle.std.specs.Io.KnownBytes.{Consumes, IsAtEnd}
use Rattle.reg_records.specs.Device.{all_reads_of, begun_of, counted, counted_by, faults_of, reads_of}
use Rattle.reg_records.specs.declared.device.Device.{Device}
use Rattle.reg_messages.specs.declared.limits.TheConstants.{REQUEST_READS}

-- one fault was counted, or none was and the reader was read as often as may be for one request
abbrev pub LosesReader : {R : Type 0} → Device R → Device R → Type 0
LosesReader before after = (faults_of after ≡ counted (faults_of before))
    ⊎ ((faults_of after ≡ faults_of before) × (reads_of after ≡ REQUEST_READS))

-- each read was counted for the request, whose count goes on, and no more reads were made than may be
abbrev pub CountsReads : {R : Type 0} → Device R → Device R → Type 0
CountsReads before after = (reads_of after ≤ REQUEST_READS)
    × (all_reads_of after + reads_of before ≤ all_reads_of before + reads_of after)
    × (counted_by (reads_of after - reads_of before) (all_reads_of before) ≤ all_reads_of after)
    × (reads_of before ≤ reads_of after) × (begun_of after ≡ begun_of before)

-- some bytes, or none at the end
abbrev pub TakesSome : Option (List ℕ) → Option (List ℕ) → List ℕ → Type 0
TakesSome old new bytes = Consumes old new bytes × (length bytes ≡ 0 → IsAtEnd new)

-- one byte, or none at the end
abbrev pub TakesByte : Option (List ℕ) → Option (List ℕ) → Option ℕ → Type 0
TakesByte old new (Some b) = Consumes old new (b ∷ [])
TakesByte old new None = Consumes old new [] × IsAtEnd new
