-- What stands behind a log, and another disk that has it.
use Rattle.std.specs.Prelude.{◌≡◌, ◌⊎◌, ⊤, ◌<◌, ◌++◌, ℕ, List, [], ◌∷◌, length, Option, Some, None, Ok}
use Rattle.reg_records.specs.Log.{LogText, log_of}
use Rattle.reg_journal.specs.Disk.{GaveFault, Keeps, Only}
use Rattle.reg_journal.specs.Found.{HasFault, HasNoEmptyLine}
use Rattle.reg_journal.specs.declared.disk.DiskError.{DiskError}
use Rattle.reg_journal.specs.declared.opening.JournalOpenError.{JournalOpenError}
use Rattle.reg_journal.specs.declared.opening.JournalOpenError.TheVariants.{Log, NoEmptyLine, Failed, OutOfMemory}

-- the disk is opened, a read returns these bytes, and a crash leaves them
abbrev pub HasForGood : {A : Type 0} → (A → List ℕ) → (A → List ℕ → Type 0) → List ℕ → Option A → Type 0
HasForGood seen may_leave bytes None = ⊥
HasForGood seen may_leave bytes (Some disk) = (seen disk ≡ bytes) × Only bytes (may_leave disk)

-- so it is where there are any
abbrev pub HasAside : {A : Type 0} → (A → List ℕ) → (A → List ℕ → Type 0) → List ℕ → Option A → Type 0
HasAside seen may_leave bytes disk = 0 < length bytes → HasForGood seen may_leave bytes disk

-- the file, or the file with an empty line more
abbrev pub IsEnded : List ℕ → List ℕ → Type 0
IsEnded old new = (new ≡ old) ⊎ (new ≡ old ++ 10 ∷ [])

-- what a crash might have left before, or a file with all bytes that were there
abbrev pub HasAll : (List ℕ → Type 0) → List ℕ → List ℕ → Type 0
HasAll may_leave old c = may_leave c ⊎ Keeps (length old) old c

-- the file has a log, once an empty line ends that, and the disk has what stands behind
abbrev pub HasBehind : {A : Type 0} → (A → List ℕ) → (A → List ℕ → Type 0) → List ℕ → Option A → Type 0
HasBehind seen may_leave old disk =
    (file : List ℕ) × IsEnded old file × (log : LogText) × (log_of file ≡ Ok log) × HasAside seen may_leave log.rest disk

-- something stands behind the log
abbrev pub StandsBehind : List ℕ → Type 0
StandsBehind old = (file : List ℕ) × IsEnded old file × (log : LogText) × (log_of file ≡ Ok log) × (0 < length log.rest)

-- why a log isn't opened: it has that fault, read as it is or once an empty line ends it; or the empty line that was written isn't found
abbrev pub IsOpenRefusal : List ℕ → JournalOpenError → Type 0
IsOpenRefusal old (Log e) = (file : List ℕ) × IsEnded old file × (HasFault file e ⊎ HasFault (file ++ 10 ∷ []) e)
IsOpenRefusal old NoEmptyLine = HasNoEmptyLine (old ++ 10 ∷ [])
IsOpenRefusal old Failed = ⊤
IsOpenRefusal old OutOfMemory = ⊤

-- whoever opens the other disk gave a fault, or the disk that he opened
abbrev pub GaveFaultAside : {A O : Type 0} → (A → DiskError → A → Type 0) → (O → DiskError → O → Type 0) → O → Option A → Type 0
GaveFaultAside faults failures opener None = GaveFault failures opener
GaveFaultAside faults failures opener (Some disk) = GaveFault failures opener ⊎ GaveFault faults disk
