-- What is found behind a log, and what a crash leaves while that is put aside.
use Rattle.std.proofs.Common.{◌≡◌, ◌⊎◌, ◌<◌, ◌++◌, ℕ, List, [], ◌∷◌, length, Ok, Option, inl, inr, ⊎_elim, sym, ap, subst, ◌∙◌, arith}
use Rattle.std.proofs.lemmas.List.{take-append-le}
use Rattle.reg_records.specs.Log.{LogText, log_of}
use Rattle.reg_journal.proofs.Moments.{joined, weaker}
use Rattle.reg_journal.specs.Disk.{Keeps, LeavesOnly, Only}
use Rattle.reg_journal.specs.Found.{IsFound}
use Rattle.reg_journal.specs.Lines.{EndedLinesAreRead, said}
use Rattle.reg_journal.specs.declared.opening.Found.{Found}
use Rattle.reg_compaction.specs.Aside.{HasAll, HasAside, HasBehind, IsEnded, StandsBehind}

module _ (ended : EndedLinesAreRead) (old file : List ℕ) (is_ended : IsEnded old file) (found : Found) (is : IsFound file found) where
  abbrev told : LogText
  told = record { floor = is.floor; reads = is.read; rest = found.behind.items }

  reads_so : log_of file ≡ Ok told
  reads_so = ap log_of is.parts ∙ ended is.lines is.floor is.read found.behind.items is.say is.few

  pub has_behind : {A : Type 0} (seen : A → List ℕ) (may_leave : A → List ℕ → Type 0) (bytes : List ℕ) (disk : Option A)
      → bytes ≡ found.behind.items → HasAside seen may_leave bytes disk → HasBehind seen may_leave old disk
  has_behind seen may_leave bytes disk same has =
      (file, is_ended, told, reads_so, subst (λ (b : List ℕ). HasAside seen may_leave b disk) same has)

  pub stands : (bytes : List ℕ) → bytes ≡ found.behind.items → 0 < length bytes → StandsBehind old
  stands bytes same some = (file, is_ended, told, reads_so, subst (λ (b : List ℕ). 0 < length b) same some)

-- a file with more behind it has all its bytes
keeps_more : (old more : List ℕ) → Keeps (length old) old (old ++ more)
keeps_more old more = take-append-le (length old) old more (omega arith)

module _ {D : Type 0} (moment : D → ℕ) (left_since : D → ℕ → List ℕ → Type 0) (may_leave : D → List ℕ → Type 0)
    (seen : D → List ℕ) (old mid new : D) where
  -- an empty line is written, and the log is read
  pub ended_and_read : seen mid ≡ seen old ++ 10 ∷ [] → Only (seen mid) (may_leave mid)
      → LeavesOnly moment left_since may_leave old mid (HasAll (may_leave old) (seen old))
      → LeavesOnly moment left_since may_leave mid new (may_leave mid)
      → LeavesOnly moment left_since may_leave old new (HasAll (may_leave old) (seen old))
  ended_and_read written durable first next =
      weaker moment left_since may_leave old new _ (HasAll (may_leave old) (seen old))
      (joined moment left_since may_leave old mid new (HasAll (may_leave old) (seen old)) (may_leave mid) first next)
      (λ c left. ⊎_elim (λ has. has)
      (λ now. inr (subst (λ (f : List ℕ). Keeps (length (seen old)) (seen old) f) (sym (durable c now ∙ written))
      (keeps_more (seen old) (10 ∷ [])))) left)

  -- a file without an empty line is read, and gets one
  pub read_and_ended : seen mid ≡ seen old
      → LeavesOnly moment left_since may_leave old mid (may_leave old)
      → LeavesOnly moment left_since may_leave mid new (HasAll (may_leave mid) (seen mid))
      → LeavesOnly moment left_since may_leave old new (HasAll (may_leave old) (seen old))
  read_and_ended same first next =
      weaker moment left_since may_leave old new _ (HasAll (may_leave old) (seen old))
      (joined moment left_since may_leave old mid new (may_leave old) (HasAll (may_leave mid) (seen mid)) first next)
      (λ c left. ⊎_elim (λ was. inl was)
      (λ more. ⊎_elim (λ was. inl (first.now c was))
      (λ keeps. inr (subst (λ (f : List ℕ). Keeps (length f) f c) same keeps)) more) left)

  -- what stands behind is cut off
  pub cut_off : said (seen mid) ≡ said (seen old)
      → LeavesOnly moment left_since may_leave old mid (HasAll (may_leave old) (seen old))
      → LeavesOnly moment left_since may_leave mid new (λ c. said c ≡ said (seen mid))
      → LeavesOnly moment left_since may_leave old new (λ c. HasAll (may_leave old) (seen old) c ⊎ (said c ≡ said (seen old)))
  cut_off same first next =
      weaker moment left_since may_leave old new _ (λ c. HasAll (may_leave old) (seen old) c ⊎ (said c ≡ said (seen old)))
      (joined moment left_since may_leave old mid new (HasAll (may_leave old) (seen old)) (λ c. said c ≡ said (seen mid)) first next)
      (λ c left. ⊎_elim (λ has. inl has) (λ is. inr (is ∙ same)) left)
