-- What starting over a file leaves.
use Rattle.std.proofs.Common.{◌≡◌, ◌≤◌, ◌⊎◌, inl, inr, ⊎_elim, ℕ, List, Result, Ok, Err, sym, ap, subst, ◌∙◌, arith}
use Rattle.std.specs.Prelude.{IfOk}
use Rattle.reg_journal.proofs.Moments.{joined, weaker}
use Rattle.reg_journal.specs.Disk.{LeavesOnly}
use Rattle.reg_journal.specs.JournalState.{JournalState}
use Rattle.reg_journal.specs.Lines.{Said, said}
use Rattle.reg_compaction.specs.Aside.{HasAll}
use Rattle.reg_compaction.specs.Said.{EachSaysItsOwnCompaction, SaysCompaction}
use Rattle.reg_records.specs.Log.{IsLogOf}
use Rattle.reg_records.specs.declared.log.Log.{Log}
use Rattle.reg_records.specs.declared.log.LogFault.{LogFault}
use Rattle.reg_file_keep.specs.KeepState.{KeepState}
use Rattle.reg_file_keep.specs.Keeping.{HasFloorUpTo, says_compaction}
use Rattle.reg_file_keep.specs.Marked.{SaysMarkedOrNot, marked}
use Rattle.reg_file_keep.specs.Starting.{LosesNothing}

abbrev Outcome : Type 0
Outcome = Result Said (ℕ × LogFault)

-- whole is what the file says once the log has the mark that it lacked
module _ {D : Type 0} (seen : D → List ℕ) (disk mid : D) (same : said (seen mid) ≡ marked (said (seen disk)))
    (says : Said) (is : marked (said (seen disk)) ≡ Ok says) where
  pub low_floor : (log : Log) (journal : JournalState D) → journal.disk ≡ mid → IsLogOf says.floor says.reads log
      → HasFloorUpTo seen log.floor journal
  low_floor log journal at is_log =
      λ goes. subst (λ (found : Outcome). IfOk found (λ s. s.floor ≤ log.floor))
      (sym (ap (λ (d : D). said (seen d)) at ∙ same ∙ is)) (omega (arith, is_log.floor))

  pub kept_from : (a b : KeepState D) → a.journal.disk ≡ mid
      → SaysCompaction (said (seen a.journal.disk)) (said (seen b.journal.disk))
      → SaysCompaction (marked (said (seen disk))) (said (seen b.journal.disk))
  kept_from a b at kept =
      subst (λ (found : Outcome). SaysCompaction found (said (seen b.journal.disk))) (ap (λ (d : D). said (seen d)) at ∙ same) kept

  itself_said : EachSaysItsOwnCompaction → SaysCompaction (marked (said (seen disk))) (marked (said (seen disk)))
  itself_said itself = subst (λ (found : Outcome). SaysCompaction found found) (sym is) (itself says)

  pub moments_from : (moment : D → ℕ) (left_since : D → ℕ → List ℕ → Type 0) (may_leave : D → List ℕ → Type 0)
      → EachSaysItsOwnCompaction
      → (a b : KeepState D) → a.journal.disk ≡ mid
      → LeavesOnly moment left_since may_leave disk mid (λ c. HasAll (may_leave disk) (seen disk) c ⊎ SaysMarkedOrNot (said (seen disk)) c)
      → LeavesOnly moment left_since may_leave a.journal.disk b.journal.disk (says_compaction (said (seen a.journal.disk)))
      → LeavesOnly moment left_since may_leave disk b.journal.disk (LosesNothing (may_leave disk) (seen disk))
  moments_from moment left_since may_leave itself a b at first next =
      let P : List ℕ → Type 0 = λ c. HasAll (may_leave disk) (seen disk) c ⊎ SaysMarkedOrNot (said (seen disk)) c in
      let room = subst (λ (d : D). LeavesOnly moment left_since may_leave d b.journal.disk (says_compaction (said (seen d)))) at next in
      weaker moment left_since may_leave disk b.journal.disk _ (LosesNothing (may_leave disk) (seen disk))
      (joined moment left_since may_leave disk mid b.journal.disk P (says_compaction (said (seen mid))) first room)
      (λ c left. ⊎_elim
      (λ early. ⊎_elim (λ has. inl has)
      (λ says_it. ⊎_elim (λ as_was. inr (inl as_was))
      (λ is_marked. inr (inr (subst (λ (found : Outcome). SaysCompaction (marked (said (seen disk))) found) (sym is_marked) (itself_said itself))))
      says_it) early)
      (λ later. inr (inr (subst (λ (found : Outcome). SaysCompaction found (said c)) same later))) left)

-- a file that says what was said, with the mark, says what was said or a compaction of it
marked_says : EachSaysItsOwnCompaction → (outcome now : Outcome) → now ≡ marked outcome → (now ≡ outcome) ⊎ SaysCompaction (marked outcome) now
marked_says itself (Ok says) now is = inr (subst (λ (found : Outcome). SaysCompaction (marked (Ok says)) found) (sym is) (itself _))
marked_says itself (Err fault) now is = inl is

-- a start that gave nothing
pub moments_of_failure : {D : Type 0} (seen : D → List ℕ) (disk new : D) (moment : D → ℕ) (left_since : D → ℕ → List ℕ → Type 0)
    (may_leave : D → List ℕ → Type 0)
    → EachSaysItsOwnCompaction
    → LeavesOnly moment left_since may_leave disk new (λ c. HasAll (may_leave disk) (seen disk) c ⊎ SaysMarkedOrNot (said (seen disk)) c)
    → LeavesOnly moment left_since may_leave disk new (LosesNothing (may_leave disk) (seen disk))
moments_of_failure seen disk new moment left_since may_leave itself leaves =
    weaker moment left_since may_leave disk new _ (LosesNothing (may_leave disk) (seen disk)) leaves
    (λ c left. ⊎_elim (λ has. inl has)
    (λ says_it. ⊎_elim (λ as_was. inr (inl as_was)) (λ is_marked. inr (marked_says itself (said (seen disk)) (said c) is_marked)) says_it)
    left)
