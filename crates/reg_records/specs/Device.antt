-- What a device counts, and the bytes of the reader or the writer in it.
use Rattle.std.specs.Prelude.{◌≡◌, ◌≢◌, ◌⊎◌, ℕ, suc, ◌+◌, ◌-◌, ◌^◌, ◌<◌, ◌≤◌, min, List, length}
use Rattle.std.specs.Prelude.{Option, None, option_map, Result, Ok, Err, MatchResult}
use Rattle.std.specs.Io.KnownBytes.{Consumes}
use Rattle.std.specs.IoError.{error_kind}
use Rattle.std.specs.declared.io.Error.{Error}
use Rattle.std.specs.declared.io.ErrorKind.TheVariants.{Interrupted}
use Rattle.reg_records.specs.declared.device.Device.{Device}

-- one more, up to the greatest count
abbrev pub counted : ℕ → ℕ
counted n = min (suc n) (2 ^ 64 - 1)

-- so many more, up to the greatest count
abbrev pub counted_by : ℕ → ℕ → ℕ
counted_by more n = min (n + more) (2 ^ 64 - 1)

-- the reader or the writer in it
abbrev pub inner_of : {T : Type 0} → Device T → T
inner_of d = d.inner

-- how many faults it has answered, up to the greatest count
abbrev pub faults_of : {T : Type 0} → Device T → ℕ
faults_of d = d.faults

-- how many reads it has made since its count began, up to the greatest count
abbrev pub reads_of : {T : Type 0} → Device T → ℕ
reads_of d = d.reads

-- how many reads it has made in all, up to the greatest count
abbrev pub all_reads_of : {T : Type 0} → Device T → ℕ
all_reads_of d = d.all_reads

-- how many bytes it has given in all, up to the greatest count: the place where it stands
abbrev pub place_of : {T : Type 0} → Device T → ℕ
place_of d = d.place

-- the place where its count of reads began
abbrev pub begun_of : {T : Type 0} → Device T → ℕ
begun_of d = d.begun

-- how many of its writes and flushes in a row were interrupted, up to the greatest count
abbrev pub interruptions_of : {T : Type 0} → Device T → ℕ
interruptions_of d = d.interruptions

-- how many of its writes and flushes were interrupted in all, up to the greatest count
abbrev pub all_interruptions_of : {T : Type 0} → Device T → ℕ
all_interruptions_of d = d.all_interruptions

-- the bytes of the reader or the writer in it, where they are known
abbrev pub bytes_in : {T : Type 0} → (T → Option (List ℕ)) → Device T → Option (List ℕ)
bytes_in bytes d = bytes d.inner

-- what a reader has left, where that is known, and the place where it stands
pub record Source : Type 0 where
  pub known : Option (List ℕ)
  pub place : ℕ

abbrev pub source_of : {R : Type 0} → (R → Option (List ℕ)) → Device R → Source
source_of remaining d = record { known = bytes_in remaining d; place = place_of d }

-- these bytes were given, and counted
abbrev pub Takes : Source → Source → List ℕ → Type 0
Takes old new bytes = Consumes old.known new.known bytes × (counted_by 0 new.place ≡ counted_by (length bytes) old.place)

-- the place where the reader's text ends, where that is known
abbrev pub end_of : {R : Type 0} → (R → Option (List ℕ)) → Device R → Option ℕ
end_of remaining d = option_map (λ bytes. counted_by (length bytes) (place_of d)) (bytes_in remaining d)

-- a known end stays where it is: the place moves on by the bytes that are given
abbrev pub KeepsEnd : {R : Type 0} → (R → Option (List ℕ)) → Device R → Device R → Type 0
KeepsEnd remaining before after = (end_of remaining before ≡ None) ⊎ (end_of remaining after ≡ end_of remaining before)

-- the count of reads began where so much of a text was left that the reader had before
abbrev pub BeganAt : {R : Type 0} → Device R → Device R → List ℕ → List ℕ → Type 0
BeganAt before after text rest = counted_by (length rest) (begun_of after) ≡ counted_by (length text) (place_of before)

-- the count of reads began once so many bytes more were given than before
abbrev pub BeganAfter : {R : Type 0} → Device R → Device R → ℕ → Type 0
BeganAfter before after n = counted_by 0 (begun_of after) ≡ counted_by n (place_of before)

-- all reads that were counted before are counted still
abbrev pub KeepsReads : {R : Type 0} → Device R → Device R → Type 0
KeepsReads before after = counted_by 0 (all_reads_of before) ≤ all_reads_of after

-- and at least so many more
abbrev pub HasReadMore : {R : Type 0} → Device R → Device R → ℕ → Type 0
HasReadMore before after n = counted_by n (all_reads_of before) ≤ all_reads_of after

-- all interruptions that were counted before are counted still
abbrev pub KeepsInterruptions : {W : Type 0} → Device W → Device W → Type 0
KeepsInterruptions before after = counted_by 0 (all_interruptions_of before) ≤ all_interruptions_of after

-- and at least so many more
abbrev pub IsInterruptedMore : {W : Type 0} → Device W → Device W → ℕ → Type 0
IsInterruptedMore before after n = counted_by n (all_interruptions_of before) ≤ all_interruptions_of after

-- the place moves on by the bytes that a read gave
abbrev pub CountsBytes : {T : Type 0} → Device T → Device T → Result ℕ Error → Type 0
CountsBytes old new answer = MatchResult answer (λ n. new.place ≡ counted_by n old.place) (λ _. new.place ≡ old.place)

-- the count rose where the answer was a fault, and there alone; an interruption isn't one
abbrev pub CountsFault : {T A : Type 0} → Device T → Device T → Result A Error → Type 0
CountsFault old new answer = MatchResult answer (λ _. new.faults ≡ old.faults)
    (λ e. (error_kind e ≡ Interrupted → new.faults ≡ old.faults) × (error_kind e ≢ Interrupted → new.faults ≡ counted old.faults))

-- an interruption of a write or a flush is counted, and any other answer begins the count in a row anew
abbrev pub CountsInterruption : {T A : Type 0} → Device T → Device T → Result A Error → Type 0
CountsInterruption old new answer = MatchResult answer (λ _. (new.interruptions ≡ 0) × (new.all_interruptions ≡ old.all_interruptions))
    (λ e. (error_kind e ≡ Interrupted
    → (new.interruptions ≡ counted old.interruptions) × (new.all_interruptions ≡ counted old.all_interruptions))
    × (error_kind e ≢ Interrupted → (new.interruptions ≡ 0) × (new.all_interruptions ≡ old.all_interruptions)))

-- the count of faults after a write, where taking no byte of a piece that has some is a fault too
abbrev pub CountsWrite : {T : Type 0} → Device T → Device T → List ℕ → Result ℕ Error → Type 0
CountsWrite old new piece (Ok n) = (n ≡ 0 → 0 < length piece → new.faults ≡ counted old.faults)
    × ((n ≡ 0 → length piece ≡ 0) → new.faults ≡ old.faults)
CountsWrite old new piece (Err e) = CountsFault {A = ℕ} old new (Err e)
