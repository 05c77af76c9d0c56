-- What making room and appending leave of a journal.
use Rattle.std.proofs.Common.{◌≡◌, ◌<◌, ◌≤◌, ◌-◌, inl, inr, ⊎_elim, ℕ, Bool, true, false, List, [], ◌∷◌, length, Option, true≢false}
use Rattle.std.proofs.Common.{Some, Result, Ok, Err, arith, refl, sym, ap, subst, ◌∙◌}
use Rattle.std.proofs.lemmas.List.Elements.{All-cons, All-head, All-nil, All-tail}
use Rattle.std.specs.List.{All}
use Rattle.std.specs.Prelude.{IfOk}
use Rattle.std.specs.Result.{result_map_both}
use Rattle.reg_journal.specs.Disk.{GaveFault, LeavesOnly}
use Rattle.reg_journal.specs.Journal.{IsSteady}
use Rattle.reg_journal.specs.JournalState.{JournalState}
use Rattle.reg_journal.specs.Lines.{EndedLinesAreRead, IsBeforeOrAfter, Said, said, with_batch}
use Rattle.reg_journal.specs.Refusals.{HasCause, is_refusal}
use Rattle.reg_journal.specs.declared.disk.DiskError.{DiskError}
use Rattle.reg_journal.specs.declared.renewal.RenewError.{RenewError}
use Rattle.reg_journal.specs.declared.journal.AppendError.{AppendError}
use Rattle.reg_journal.specs.declared.journal.AppendError.TheVariants as errors
use Rattle.reg_journal.proofs.Moments.{begun, joined, weaker}
use Rattle.reg_compaction.specs.InPlace.{IsBeforeOrCompacted, breaks}
use Rattle.reg_compaction.specs.declared.in_place.JournalCompactError.{JournalCompactError}
use Rattle.reg_compaction.specs.declared.in_place.JournalCompactError.TheVariants as errors_of
use Rattle.reg_compaction.specs.Said.{CompactedFilesSayIt, EachSaysItsOwnCompaction, IsFromFloor, SaysCompaction}
use Rattle.reg_records.specs.declared.limits.TheConstants.{LOG_LINES}
use Rattle.reg_records.specs.Log.{LogText, log_of}
use Rattle.reg_records.specs.declared.log.LogFault.{LogFault}
use Rattle.reg_records.specs.declared.record.Record.{Record}
use Rattle.reg_pen.specs.declared.keep.Kept.TheVariants.{Taken}
use Rattle.reg_file_keep.specs.KeepState.{KeepState}
use Rattle.reg_file_keep.specs.Keeping.{Ends, HasFloorUpTo, HasReason, SaysCompactionOrMore, free_behind, kept_of, next_after, says_compaction}

abbrev pub of_log : Result LogText (ℕ × LogFault) → Result Said (ℕ × LogFault)
of_log found = result_map_both (λ (log : LogText). record { floor = log.floor; reads = log.reads }) (λ fault. fault) found

module _ {D : Type 0} (seen : D → List ℕ) (may_leave : D → List ℕ → Type 0) (ended : EndedLinesAreRead)
    (itself : EachSaysItsOwnCompaction) (disk : D) (end count : ℕ) (s : IsSteady seen may_leave disk end count) where
  -- a settled file says a compaction of itself
  pub says_itself : SaysCompaction (said (seen disk)) (said (seen disk))
  says_itself =
      let says : said (seen disk) ≡ Ok (record { floor = s.floor; reads = s.read }) =
      ap of_log (ap log_of s.file ∙ ended s.lines s.floor s.read [] s.say s.few) in
      subst (λ (found : Result Said (ℕ × LogFault)). SaysCompaction found found)
      (sym says) (itself (record { floor = s.floor; reads = s.read }))

  pub says_left : CompactedFilesSayIt → (floor : Option ℕ) (file : List ℕ)
      → IsBeforeOrCompacted floor (seen disk) file → SaysCompaction (said (seen disk)) (said file)
  says_left compacted floor file left =
      ⊎_elim
      (λ same. subst (λ (found : Result Said (ℕ × LogFault)). SaysCompaction (said (seen disk)) found) (sym same) says_itself)
      (λ is. compacted floor (seen disk) file is)
      left

  -- what a crash leaves of it
  pub says_on_disk : (file : List ℕ) → may_leave disk file → SaysCompaction (said (seen disk)) (said file)
  says_on_disk file left = subst (λ (f : List ℕ). SaysCompaction (said (seen disk)) (said f)) (sym (s.durable file left)) says_itself

-- what compacting in place leaves of a journal
module _ {D : Type 0} (known : D → Type 0) (seen : D → List ℕ)
    (may_leave : D → List ℕ → Type 0) (moment : D → ℕ) (left_since : D → ℕ → List ℕ → Type 0)
    (ended : EndedLinesAreRead) (itself : EachSaysItsOwnCompaction)
    (compacted : CompactedFilesSayIt) (floor : Option ℕ) (old new : JournalState D)
    (ready : known old.disk × IsSteady seen may_leave old.disk old.end old.lines) where
  left_of : (file : List ℕ) → IsBeforeOrCompacted floor (seen old.disk) file → SaysCompaction (said (seen old.disk)) (said file)
  left_of file left = says_left seen may_leave ended itself old.disk old.end old.lines ready.1 compacted floor file left

  pub room_left : IsBeforeOrCompacted floor (seen old.disk) (seen new.disk) → SaysCompaction (said (seen old.disk)) (said (seen new.disk))
  room_left left = left_of (seen new.disk) left

  pub moments_left : LeavesOnly moment left_since may_leave old.disk new.disk (IsBeforeOrCompacted floor (seen old.disk))
      → LeavesOnly moment left_since may_leave old.disk new.disk (says_compaction (said (seen old.disk)))
  moments_left leaves =
      weaker moment left_since may_leave old.disk new.disk (IsBeforeOrCompacted floor (seen old.disk))
      (says_compaction (said (seen old.disk))) leaves left_of

-- ---- the floor that is said

abbrev Outcome : Type 0
Outcome = Result Said (ℕ × LogFault)

abbrev IsUpTo : ℕ → Outcome → Type 0
IsUpTo floor found = IfOk found (λ says. says.floor ≤ floor)

-- compacting to a floor leaves none that is higher
pub floor_left : (floor asked : ℕ) (before file : List ℕ) → asked ≤ floor
    → IsBeforeOrCompacted (Some asked) before file → IsUpTo floor (said before) → IsUpTo floor (said file)
floor_left floor asked before file most left low =
    ⊎_elim
    (λ same. subst (λ (found : Outcome). IsUpTo floor found) (sym same) low)
    (λ is. ⊎_elim
    (λ to. subst (λ (found : Outcome). IsUpTo floor found) (sym (ap of_log to.read_back)) (omega (arith, to.floor, most)))
    (λ own.
    let it = own.1 in
    let was : it.log.floor ≤ floor = subst (λ (found : Outcome). IsUpTo floor found) (ap of_log it.read) low in
    subst (λ (found : Outcome). IsUpTo floor found) (sym (ap of_log it.read_back)) (omega (arith, it.floor, was)))
    is)
    left

-- a batch behind it says none
pub floor_behind : (floor : ℕ) (batch : List Record) (before now : Outcome)
    → now ≡ with_batch batch before → IsUpTo floor before → IsUpTo floor now
floor_behind floor batch (Ok says) now is low = subst (λ (found : Outcome). IsUpTo floor found) (sym is) low
floor_behind floor batch (Err fault) now is low = subst (λ (found : Outcome). IsUpTo floor found) (sym is) tt

pub floor_up : (low high : ℕ) (found : Outcome) → low ≤ high → IsUpTo low found → IsUpTo high found
floor_up low high (Ok says) most is = omega (arith, most, is)
floor_up low high (Err fault) most is = tt

all_from : (low high : ℕ) (batch : List Record) → low ≤ high → All (λ r. high ≤ r.offset) batch → All (λ r. low ≤ r.offset) batch
all_from low high [] most all = All-nil (λ r. low ≤ r.offset)
all_from low high (r ∷ batch) most all =
    let first : high ≤ r.offset = All-head (λ r. high ≤ r.offset) r batch all in
    All-cons (λ r. low ≤ r.offset) r batch (omega (arith, first, most))
    (all_from low high batch most (All-tail (λ r. high ≤ r.offset) r batch all))

-- none of a batch from the known floor on is below the floor that is said
pub from_floor : (floor : ℕ) (batch : List Record) (found : Outcome)
    → All (λ r. floor ≤ r.offset) batch → IsUpTo floor found → IsFromFloor batch found
from_floor floor batch (Ok says) all low = all_from says.floor floor batch low all
from_floor floor batch (Err fault) all low = tt

-- nothing was done
module _ {D : Type 0} (known : D → Type 0) (seen : D → List ℕ)
    (may_leave : D → List ℕ → Type 0) (moment : D → ℕ) (left_since : D → ℕ → List ℕ → Type 0)
    (ended : EndedLinesAreRead) (itself : EachSaysItsOwnCompaction) (j : JournalState D)
    (ready : known j.disk × IsSteady seen may_leave j.disk j.end j.lines) where
  pub says_same : SaysCompaction (said (seen j.disk)) (said (seen j.disk))
  says_same = says_itself seen may_leave ended itself j.disk j.end j.lines ready.1

  pub moments_same : ((file : List ℕ) → left_since j.disk (moment j.disk) file → may_leave j.disk file)
      → LeavesOnly moment left_since may_leave j.disk j.disk (says_compaction (said (seen j.disk)))
  moments_same only =
      begun moment left_since may_leave (says_compaction (said (seen j.disk))) j.disk only
      (λ file left. says_on_disk seen may_leave ended itself j.disk j.end j.lines ready.1 file left)

  pub leaves_same : (batch : List Record) → ((file : List ℕ) → left_since j.disk (moment j.disk) file → may_leave j.disk file)
      → LeavesOnly moment left_since may_leave j.disk j.disk (SaysCompactionOrMore (said (seen j.disk)) batch)
  leaves_same batch only =
      begun moment left_since may_leave (SaysCompactionOrMore (said (seen j.disk)) batch) j.disk only
      (λ file left. (said file, says_on_disk seen may_leave ended itself j.disk j.end j.lines ready.1 file left, inl refl))

-- a journal that answers so isn't broken
pub sound_of : {T : Type 0} (b : Bool) (r : Result T AppendError) (v : T) → r ≡ Ok v → (b ≡ true → r ≡ Err errors.Broken) → b ≡ false
sound_of true r v ok broken = let e = broken refl in cc
sound_of false r v ok broken = refl

pub error_of : {T : Type 0} (r : Result T AppendError) (error : AppendError) → r ≡ Err error → r ≡ Err errors.Broken → error ≡ errors.Broken
error_of r error is broken = cc

module _ {D : Type 0} (moment : D → ℕ) (left_since : D → ℕ → List ℕ → Type 0) (may_leave : D → List ℕ → Type 0)
    (seen : D → List ℕ) (old mid new : JournalState D) (batch : List Record) where
  alone : (file : List ℕ) → says_compaction (said (seen old.disk)) file → SaysCompactionOrMore (said (seen old.disk)) batch file
  alone file says = (said file, says, inl refl)

  -- a batch that is appended once there is room
  pub appended : LeavesOnly moment left_since may_leave old.disk mid.disk (says_compaction (said (seen old.disk)))
      → SaysCompaction (said (seen old.disk)) (said (seen mid.disk))
      → LeavesOnly moment left_since may_leave mid.disk new.disk (IsBeforeOrAfter (said (seen mid.disk)) batch)
      → LeavesOnly moment left_since may_leave old.disk new.disk (SaysCompactionOrMore (said (seen old.disk)) batch)
  appended room says appends =
      weaker moment left_since may_leave old.disk new.disk _ (SaysCompactionOrMore (said (seen old.disk)) batch)
      (joined moment left_since may_leave old.disk mid.disk new.disk (says_compaction (said (seen old.disk)))
      (IsBeforeOrAfter (said (seen mid.disk)) batch) room appends)
      (λ file left. ⊎_elim (λ p. alone file p) (λ q. (said (seen mid.disk), says, q)) left)

  -- a journal that making room broke is left as it is
  pub left_alone : LeavesOnly moment left_since may_leave old.disk mid.disk (says_compaction (said (seen old.disk))) → new ≡ mid
      → LeavesOnly moment left_since may_leave old.disk new.disk (SaysCompactionOrMore (said (seen old.disk)) batch)
  left_alone room same =
      subst (λ (j : JournalState D). LeavesOnly moment left_since may_leave old.disk j.disk (SaysCompactionOrMore (said (seen old.disk)) batch)) (sym same)
      (weaker moment left_since may_leave old.disk mid.disk (says_compaction (said (seen old.disk)))
      (SaysCompactionOrMore (said (seen old.disk)) batch) room alone)

  -- either
  pub at_any_moment : LeavesOnly moment left_since may_leave old.disk mid.disk (says_compaction (said (seen old.disk)))
      → (mid.is_broken ≡ false → SaysCompaction (said (seen old.disk)) (said (seen mid.disk)))
      → (mid.is_broken ≡ false → LeavesOnly moment left_since may_leave mid.disk new.disk (IsBeforeOrAfter (said (seen mid.disk)) batch))
      → (mid.is_broken ≡ true → new ≡ mid)
      → LeavesOnly moment left_since may_leave old.disk new.disk (SaysCompactionOrMore (said (seen old.disk)) batch)
  at_any_moment room says appends same =
      elim (mid.is_broken) as (λ b.
      mid.is_broken ≡ b → LeavesOnly moment left_since may_leave old.disk new.disk (SaysCompactionOrMore (said (seen old.disk)) batch)) [
        | true ↦ λ broken. left_alone room (same broken)
        | false ↦ λ sound. appended room (says sound) (appends sound)
      ] refl

  abbrev pub Room : Type 0 → Type 0
  Room is_modelled = is_modelled → mid.is_broken ≡ false → SaysCompaction (said (seen old.disk)) (said (seen mid.disk))

  declined : (is_modelled : Type 0) (error : AppendError) → Room is_modelled
      → new ≡ mid → (mid.is_broken ≡ true → error ≡ errors.Broken) → (error ≡ errors.Broken → ⊥)
      → (new.is_broken ≡ false) × (is_modelled → SaysCompaction (said (seen old.disk)) (said (seen new.disk)))
  declined is_modelled error room same broken not =
      let sound : mid.is_broken ≡ false =
      elim (mid.is_broken) as (λ b. mid.is_broken ≡ b → b ≡ false) [
        | true ↦ λ is. absurd (not (broken is))
        | false ↦ λ is. refl
      ] refl in
      subst (λ (j : JournalState D). (j.is_broken ≡ false) × (is_modelled → SaysCompaction (said (seen old.disk)) (said (seen j.disk))))
      (sym same)
      (sound, λ modelled. room modelled sound)

  pub ends_refused : (is_modelled : Type 0) (error : AppendError) → Room is_modelled
      → (is_refusal error ≡ true → new ≡ mid) → (is_refusal error ≡ false → new.is_broken ≡ true)
      → (mid.is_broken ≡ true → error ≡ errors.Broken)
      → Ends is_modelled seen old batch (kept_of error) new
  ends_refused is_modelled errors.LineTooLong room same loses broken =
      declined is_modelled errors.LineTooLong room (same refl) broken (λ is. cc)
  ends_refused is_modelled errors.TooManyLines room same loses broken =
      declined is_modelled errors.TooManyLines room (same refl) broken (λ is. cc)
  ends_refused is_modelled errors.OutOfMemory room same loses broken =
      declined is_modelled errors.OutOfMemory room (same refl) broken (λ is. cc)
  ends_refused is_modelled errors.Changed room same loses broken = loses refl
  ends_refused is_modelled errors.Unnamed room same loses broken = loses refl
  ends_refused is_modelled errors.Failed room same loses broken = loses refl
  ends_refused is_modelled errors.Broken room same loses broken = loses refl

-- a batch that wasn't appended isn't taken
pub not_taken : (error : AppendError) → kept_of error ≡ Taken → ⊥
not_taken errors.LineTooLong is = cc
not_taken errors.TooManyLines is = cc
not_taken errors.OutOfMemory is = cc
not_taken errors.Changed is = cc
not_taken errors.Unnamed is = cc
not_taken errors.Failed is = cc
not_taken errors.Broken is = cc

-- why a batch wasn't appended
module _ {D : Type 0} (is_modelled : Type 0) (faults : D → DiskError → D → Type 0) (renewals : D → RenewError → D → Type 0)
    (named : D → Bool → Type 0) (old mid new : KeepState D) (batch : List Record) where
  pub reason_of : (error : AppendError)
      → HasCause is_modelled faults named mid.journal batch (free_behind batch) error new.journal
      → (is_refusal error ≡ true → new.journal ≡ mid.journal)
      → (mid.journal.is_broken ≡ true → new.journal ≡ mid.journal)
      → (is_modelled → mid.journal.is_broken ≡ true → GaveFault renewals mid.journal.disk)
      → HasReason is_modelled faults renewals named old batch (kept_of error) new
  reason_of errors.LineTooLong cause same alone lost = inr (inl cause)
  reason_of errors.TooManyLines cause same alone lost =
      let lines : new.journal.lines ≡ mid.journal.lines = ap (λ (j : JournalState D). j.lines) (same refl) in
      inr (inr (subst (λ (n : ℕ). LOG_LINES - free_behind batch - n < length batch) (sym lines) cause))
  reason_of errors.OutOfMemory cause same alone lost = tt
  reason_of errors.Changed cause same alone lost = λ modelled. inr (inr (inr (inr (mid.journal.end, cause modelled))))
  reason_of errors.Unnamed cause same alone lost = λ modelled. inr (inr (inr (inl (cause modelled))))
  reason_of errors.Failed cause same alone lost = λ modelled. inr (inl cause)
  reason_of errors.Broken cause same alone lost =
      λ modelled. inr (inr (inl (
      subst (λ (j : JournalState D). GaveFault renewals j.disk) (sym (alone cause)) (lost modelled cause))))

  -- nothing of it counts for the next offset
  pub counts_same : (error : AppendError) (next : ℕ) → next ≡ next_after next batch (kept_of error)
  counts_same errors.LineTooLong next = refl
  counts_same errors.TooManyLines next = refl
  counts_same errors.OutOfMemory next = refl
  counts_same errors.Changed next = refl
  counts_same errors.Unnamed next = refl
  counts_same errors.Failed next = refl
  counts_same errors.Broken next = refl

-- a compaction that failed breaks a journal only where a renewal gave a fault
pub lost_by : {G : Type 0} (b was : Bool) (e : JournalCompactError) → (breaks e ≡ false → b ≡ was) → was ≡ false → (e ≡ errors_of.Changed → ⊥)
    → (e ≡ errors_of.Lost → G) → (e ≡ errors_of.Broken → was ≡ true) → b ≡ true → G
lost_by b was errors_of.OutOfMemory as_was sound changed lost broken is = let e = as_was refl in absurd (true≢false (sym is ∙ e ∙ sound))
lost_by b was errors_of.Failed as_was sound changed lost broken is = let e = as_was refl in absurd (true≢false (sym is ∙ e ∙ sound))
lost_by b was errors_of.Unread as_was sound changed lost broken is = let e = as_was refl in absurd (true≢false (sym is ∙ e ∙ sound))
lost_by b was errors_of.Changed as_was sound changed lost broken is = absurd (changed refl)
lost_by b was errors_of.Lost as_was sound changed lost broken is = lost refl
lost_by b was errors_of.Broken as_was sound changed lost broken is = absurd (true≢false (sym (broken refl) ∙ sound))

pub stays_refused : {D : Type 0} (seen : D → List ℕ) (floor : ℕ) (mid new : JournalState D) (b : Bool) → (b ≡ true → new ≡ mid)
    → (b ≡ false → new.is_broken ≡ true) → HasFloorUpTo seen floor mid → HasFloorUpTo seen floor new
stays_refused {D} seen floor mid new true same loses low = subst (λ (j : JournalState D). HasFloorUpTo seen floor j) (sym (same refl)) low
stays_refused seen floor mid new false same loses low = λ goes. absurd (true≢false (sym (loses refl) ∙ goes))
