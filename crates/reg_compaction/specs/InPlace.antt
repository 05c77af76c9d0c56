-- What compacting does to a journal and its file.
use Rattle.std.specs.Prelude.{◌≡◌, ◌⊎◌, ℕ, List, Bool, true, false, Option}
use Rattle.reg_journal.specs.JournalState.{JournalState}
use Rattle.reg_journal.specs.Lines.{said}
use Rattle.reg_journal.specs.declared.disk.DiskError.{DiskError}
use Rattle.reg_journal.specs.declared.disk.DiskError.TheVariants as disks
use Rattle.reg_journal.specs.declared.renewal.RenewError.{RenewError}
use Rattle.reg_journal.specs.declared.renewal.RenewError.TheVariants as renewals
use Rattle.reg_compaction.specs.CompactedTo.{IsCompactedBy}
use Rattle.reg_compaction.specs.declared.in_place.JournalCompactError.{JournalCompactError}
use Rattle.reg_compaction.specs.declared.in_place.JournalCompactError.TheVariants.{OutOfMemory, Failed, Unread, Changed, Lost, Broken}

-- the file says what was said before, or is a compaction of the file before
abbrev pub IsBeforeOrCompacted : Option ℕ → List ℕ → List ℕ → Type 0
IsBeforeOrCompacted floor before file = (said file ≡ said before) ⊎ IsCompactedBy floor before file

-- no batch is taken any more
abbrev pub breaks : JournalCompactError → Bool
breaks OutOfMemory = false
breaks Failed = false
breaks Unread = false
breaks Changed = true
breaks Lost = true
breaks Broken = true

-- the journal and the bytes of its file are as they were
pub record IsAsItWas {D : Type 0} (is_modelled : Type 0) (seen : D → List ℕ) (old new : JournalState D) : Type 0 where
  pub bytes : is_modelled → seen new.disk ≡ seen old.disk
  pub «end» : new.end ≡ old.end
  pub lines : new.lines ≡ old.lines
  pub is_broken : new.is_broken ≡ old.is_broken

-- the file is a compaction of what it was, of so many lines
pub record IsShrunk {D : Type 0} (is_modelled : Type 0) (seen : D → List ℕ) (floor : Option ℕ) (old : JournalState D)
    (kept : ℕ) (new : JournalState D) : Type 0 where
  pub compacted : is_modelled → IsCompactedBy floor (seen old.disk) (seen new.disk)
  pub lines : new.lines ≡ kept
  pub is_broken : new.is_broken ≡ false

-- what a disk's error makes of compacting
abbrev pub disk_refusal : DiskError → JournalCompactError
disk_refusal disks.OutOfMemory = OutOfMemory
disk_refusal disks.Failed = Failed

abbrev pub renew_refusal : RenewError → JournalCompactError
renew_refusal (renewals.Kept error) = disk_refusal error
renew_refusal renewals.Lost = Lost
