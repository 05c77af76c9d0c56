-- What opening a pen leaves in the file.
use Rattle.std.proofs.Common.{◌≡◌, ℕ, Bool, false, List, [], ◌∷◌, Result, Ok, Err, refl, sym, ap, subst, subst₂, append-nil}
use Rattle.reg_journal.specs.Disk.{Only}
use Rattle.reg_journal.specs.Lines.{Said, said, with_batch}
use Rattle.reg_journal.specs.declared.disk.DiskError.{DiskError}
use Rattle.reg_journal.specs.declared.renewal.RenewError.{RenewError}
use Rattle.reg_compaction.specs.Said.{BatchesFollowCompactions, SaidCompactionsCompose, SaysCompaction}
use Rattle.reg_pen.specs.Opening.{KeepsDue}
use Rattle.reg_records.specs.declared.log.LogFault.{LogFault}
use Rattle.reg_records.specs.declared.record.Read.{Read}
use Rattle.reg_records.specs.declared.record.Record.{Record}
use Rattle.reg_file_keep.specs.KeepState.{KeepState}
use Rattle.reg_file_keep.specs.Keeping.{KeepsFile}
use Rattle.reg_file_keep.specs.Published.{SaysPublished}
use Rattle.reg_file_keep.proofs.Submitted.{Here, says_now}

pub no_more : (before : Result Said (ℕ × LogFault)) → with_batch [] before ≡ before
no_more (Ok says) = ap (λ (l : List Read). Ok (record says { reads = l })) (append-nil says.reads)
no_more (Err fault) = refl

module _ {D : Type 0} (across : SaidCompactionsCompose) (follow : BatchesFollowCompactions) (is_modelled : Type 0)
    (moment : D → ℕ) (left_since : D → ℕ → List ℕ → Type 0) (may_leave : D → List ℕ → Type 0) (seen : D → List ℕ)
    (faults : D → DiskError → D → Type 0) (renewals : D → RenewError → D → Type 0) (named : D → Bool → Type 0) (modelled : is_modelled) where
  here : (whole : Said) (old new : KeepState D) (due : List Record)
      → Here seen may_leave (Ok whole) [] old
      → KeepsDue (KeepsFile is_modelled moment left_since may_leave seen faults renewals named) old due new
      → Here seen may_leave (with_batch due (Ok whole)) [] new
  here whole old new [] was same =
      let says : SaysCompaction (with_batch [] (with_batch [] (Ok whole))) (said (seen old.journal.disk)) =
      subst (λ (s : Result Said (ℕ × LogFault)). SaysCompaction s (said (seen old.journal.disk)))
      (sym (no_more (with_batch [] (Ok whole)))) was.1 in
      subst (λ (k : KeepState D). Here seen may_leave (with_batch [] (Ok whole)) [] k) (sym same) (was.0, says, was.2)
  here whole old new (r ∷ rs) was keeps =
      let now = keeps.ends.1 modelled in
      let whole_said : SaysCompaction (Ok whole) (said (seen old.journal.disk)) =
      subst (λ (s : Result Said (ℕ × LogFault)). SaysCompaction s (said (seen old.journal.disk))) (no_more (Ok whole)) was.1 in
      let before = across (Ok whole) (said (seen old.journal.disk)) now.0 whole_said now.1 in (
        keeps.ends.0,
        subst₂ SaysCompaction (sym (no_more (with_batch (r ∷ rs) (Ok whole)))) (sym now.3)
            (follow (r ∷ rs) (Ok whole) now.0 before now.2),
        keeps.durable modelled keeps.ends.0,
      )

  pub opened : (whole : Said) (old new : KeepState D) (due : List Record) → old.journal.is_broken ≡ false
      → SaysCompaction (Ok whole) (said (seen old.journal.disk))
      → Only (seen old.journal.disk) (may_leave old.journal.disk)
      → KeepsDue (KeepsFile is_modelled moment left_since may_leave seen faults renewals named) old due new
      → SaysPublished seen may_leave (with_batch due (Ok whole))
      (record { published = []; pending = []; lost = false; keep = new })
  opened whole old new due sound says durable keeps =
      says_now seen may_leave (with_batch due (Ok whole)) (record { published = []; pending = []; lost = false; keep = new }) refl
      (here whole old new due (
        sound,
        subst (λ (s : Result Said (ℕ × LogFault)). SaysCompaction s (said (seen old.journal.disk))) (sym (no_more (Ok whole))) says,
        durable,
      ) keeps)
