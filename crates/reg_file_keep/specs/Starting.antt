-- What a start over a file gives, and what it leaves where it gives nothing.
use Rattle.std.specs.Prelude.{◌≡◌, ◌⊎◌, ℕ, List, Ok, false}
use Rattle.reg_journal.specs.Disk.{Only}
use Rattle.reg_journal.specs.Lines.{Said, said}
use Rattle.reg_compaction.specs.Aside.{HasAll}
use Rattle.reg_compaction.specs.Said.{SaysCompaction}
use Rattle.reg_records.specs.Log.{IsLogOf}
use Rattle.reg_records.specs.declared.log.Log.{Log}
use Rattle.reg_file_keep.specs.KeepState.{KeepState}
use Rattle.reg_file_keep.specs.Marked.{marked}

-- the keep stands at the end of the log: it goes on at its next offset, and its file says a compaction of what the log was
-- read from, all of it on the disk
pub record StandsAt {D : Type 0} (is_modelled : Type 0) (may_leave : D → List ℕ → Type 0) (seen : D → List ℕ)
    (keep : KeepState D) (log : Log) : Type 0 where
  pub sound : keep.journal.is_broken ≡ false
  pub next : keep.next ≡ log.next
  pub file : is_modelled
      → (whole : Said) × IsLogOf whole.floor whole.reads log × SaysCompaction (Ok whole) (said (seen keep.journal.disk))
  pub durable : is_modelled → Only (seen keep.journal.disk) (may_leave keep.journal.disk)

-- what a crash might have left before, a file with all bytes that were there, or one that says the same, or a compaction of it
-- with the mark that it lacked
abbrev pub LosesNothing : (List ℕ → Type 0) → List ℕ → List ℕ → Type 0
LosesNothing may_leave before c = HasAll may_leave before c ⊎ (said c ≡ said before) ⊎ SaysCompaction (marked (said before)) (said c)
