-- What is found in a file that is opened, or why nothing is.
use Rattle.std.specs.Prelude.{◌≡◌, ⊤, ◌≤◌, ℕ, List, [], ◌∷◌, ◌++◌, length, Ok, Err}
use Rattle.reg_records.specs.Log.{IsLogOf, LogText, log_of}
use Rattle.reg_records.specs.declared.limits.TheConstants.{LOG_LINES}
use Rattle.reg_records.specs.declared.log.LogError.{LogError}
use Rattle.reg_records.specs.declared.log.LogError.TheVariants as logs
use Rattle.reg_records.specs.declared.record.Read.{Read}
use Rattle.reg_journal.specs.Disk.{GaveFault}
use Rattle.reg_journal.specs.Lines.{text_of, SayLog}
use Rattle.reg_journal.specs.declared.disk.DiskError.{DiskError}
use Rattle.reg_journal.specs.declared.opening.Found.{Found}
use Rattle.reg_journal.specs.declared.opening.JournalOpenError.{JournalOpenError}
use Rattle.reg_journal.specs.declared.opening.JournalOpenError.TheVariants.{Log, NoEmptyLine, Failed, OutOfMemory}

-- the file is lines of this log, which end at `end`, an empty line, and what was found behind it
pub record IsFound (file : List ℕ) (found : Found) : Type 0 where
  pub lines : List (List ℕ)
  pub floor : ℕ
  pub read : List Read
  pub parts : file ≡ text_of lines ++ 10 ∷ found.behind.items
  pub say : SayLog lines floor read
  pub ends : found.end ≡ length (text_of lines)
  pub counts : found.lines ≡ length lines
  pub few : length lines ≤ LOG_LINES
  pub is_log : IsLogOf floor read found.log

-- the text's first fault is that one
abbrev pub HasFault : List ℕ → LogError → Type 0
HasFault text (logs.Fault line fault) = log_of text ≡ Err (line, fault)
HasFault text (logs.ReadFault line) = ⊤
HasFault text logs.OutOfMemory = ⊤

-- the file is a log without an empty line, once an LF ends its last line: nothing is left behind that
abbrev pub HasNoEmptyLine : List ℕ → Type 0
HasNoEmptyLine file = (log : LogText) × (log_of (file ++ 10 ∷ []) ≡ Ok log) × (log.rest ≡ [])

-- why a file's log wasn't read: it has that fault, or a call failed
abbrev pub IsReadRefusal : List ℕ → JournalOpenError → Type 0
IsReadRefusal file (Log e) = HasFault file e
IsReadRefusal file NoEmptyLine = ⊥
IsReadRefusal file Failed = ⊤
IsReadRefusal file OutOfMemory = ⊤

-- a call to the disk failed: it gave a fault, or memory was refused
abbrev pub IsDiskRefusal : {D : Type 0} → (D → DiskError → D → Type 0) → D → JournalOpenError → Type 0
IsDiskRefusal faults new (Log e) = ⊥
IsDiskRefusal faults new NoEmptyLine = ⊥
IsDiskRefusal faults new Failed = GaveFault faults new
IsDiskRefusal faults new OutOfMemory = ⊤

-- why nothing was found; an LF at the end of the file is taken as given
abbrev pub IsLookRefusal : List ℕ → JournalOpenError → Type 0
IsLookRefusal file (Log e) = HasFault (file ++ 10 ∷ []) e
IsLookRefusal file NoEmptyLine = HasNoEmptyLine file
IsLookRefusal file Failed = ⊤
IsLookRefusal file OutOfMemory = ⊤

-- the disk was not changed
abbrev pub IsUnchanged : {D : Type 0} → (D → Type 0) → (D → List ℕ) → D → D → Type 0
IsUnchanged known seen old new = known new × (seen new ≡ seen old)

-- what was read is no log that ends: the disk is as it was
abbrev pub LeavesFile : {D : Type 0} → (D → Type 0) → (D → List ℕ) → D → D → JournalOpenError → Type 0
LeavesFile known seen old new (Log e) = IsUnchanged known seen old new
LeavesFile known seen old new NoEmptyLine = IsUnchanged known seen old new
LeavesFile known seen old new Failed = ⊤
LeavesFile known seen old new OutOfMemory = ⊤
