-- Why nothing is started over a file.
use Rattle.std.specs.Prelude.{◌≡◌, ◌⊎◌, ℕ, List, [], ◌∷◌, Bool, false, IfOk}
use Rattle.reg_compaction.specs.Aside.{IsOpenRefusal}
use Rattle.reg_journal.specs.Disk.{GaveFault}
use Rattle.reg_journal.specs.Journal.{IsReady}
use Rattle.reg_journal.specs.JournalState.{JournalState}
use Rattle.reg_journal.specs.Lines.{said}
use Rattle.reg_journal.specs.Refusals.{HasCause}
use Rattle.reg_journal.specs.declared.disk.DiskError.{DiskError}
use Rattle.reg_journal.specs.declared.journal.AppendError.{AppendError}
use Rattle.reg_journal.specs.declared.journal.AppendError.TheVariants.{OutOfMemory}
use Rattle.reg_journal.specs.declared.opening.JournalOpenError.TheVariants.{Failed}
use Rattle.reg_journal.specs.declared.renewal.RenewError.{RenewError}
use Rattle.reg_records.specs.declared.record.Record.{Record}
use Rattle.reg_file_keep.specs.Marked.{lacked_by}
use Rattle.reg_file_keep.specs.declared.starting.StartFault.{StartFault}
use Rattle.reg_file_keep.specs.declared.starting.StartFault.TheVariants.{Log, Mark}

-- the mark of ids that the file's log lacks wasn't acknowledged, for a cause that a journal gives which says the same log
pub record HasMarkCause {D : Type 0} (is_modelled : Type 0) (known : D → Type 0) (seen : D → List ℕ) (may_leave : D → List ℕ → Type 0)
    (faults : D → DiskError → D → Type 0) (named : D → Bool → Type 0) (old : D) (error : AppendError) (new : D) : Type 0 where
  pub mark : Record
  pub lacks : IfOk (said (seen old)) (λ says. lacked_by says ≡ mark ∷ [])
  pub before : JournalState D
  pub same : said (seen before.disk) ≡ said (seen old)
  pub sound : before.is_broken ≡ false
  pub ready : IsReady known seen may_leave before
  pub after : JournalState D
  pub is_new : after.disk ≡ new
  pub cause : HasCause is_modelled faults named before (mark ∷ []) 0 error after

-- so it was, or memory was refused
abbrev pub IsMarkRefusal : {D : Type 0} → Type 0 → (D → Type 0) → (D → List ℕ) → (D → List ℕ → Type 0) → (D → DiskError → D → Type 0)
    → (D → Bool → Type 0) → D → AppendError → D → Type 0
IsMarkRefusal is_modelled known seen may_leave faults named old error new =
    (error ≡ OutOfMemory) ⊎ HasMarkCause is_modelled known seen may_leave faults named old error new

-- the log has that fault, or the mark that it lacks wasn't acknowledged, or memory was refused; it failed only where the disk gave a fault, in
-- a renewal too, or where one was given beside it
abbrev pub HasStartCause : {D : Type 0} → Type 0 → (D → Type 0) → (D → List ℕ) → (D → List ℕ → Type 0) → (D → DiskError → D → Type 0)
    → (D → RenewError → D → Type 0) → (D → Bool → Type 0) → (given_beside : Type 0) → D → StartFault → D → Type 0
HasStartCause is_modelled known seen may_leave faults renewals named beside old (Log e) new =
    IsOpenRefusal (seen old) e × (e ≡ Failed → GaveFault faults new ⊎ beside ⊎ GaveFault renewals new)
HasStartCause is_modelled known seen may_leave faults renewals named beside old (Mark e) new =
    IsMarkRefusal is_modelled known seen may_leave faults named old e new
