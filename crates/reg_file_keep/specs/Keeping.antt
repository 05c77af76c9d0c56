-- What a keep over a file does with a batch.
use Rattle.std.specs.Prelude.{◌≡◌, ⊤, ◌⊎◌, ◌<◌, ◌≤◌, ◌-◌, max, min, ℕ, Bool, List, [], ◌∷◌, length, Result, true, false, None, Some, All, IfOk, if◌then◌else◌}
use Rattle.reg_journal.specs.Disk.{GaveFault, LeavesOnly, Only}
use Rattle.reg_journal.specs.JournalState.{JournalState}
use Rattle.reg_journal.specs.Lines.{IsBeforeOrAfter, Said, said, with_batch}
use Rattle.reg_journal.specs.Refusals.{HasLongLine, IsTooLarge}
use Rattle.reg_journal.specs.declared.disk.DiskError.{DiskError}
use Rattle.reg_journal.specs.declared.journal.AppendError.{AppendError}
use Rattle.reg_journal.specs.declared.journal.AppendError.TheVariants as errors
use Rattle.reg_journal.specs.declared.renewal.RenewError.{RenewError}
use Rattle.reg_compaction.specs.Said.{IsFromFloor, SaysCompaction}
use Rattle.reg_compaction.specs.CompactedTo.{IsCompactedBy}
use Rattle.reg_compaction.specs.declared.in_place.JournalCompactError.{JournalCompactError}
use Rattle.reg_compaction.specs.declared.in_place.JournalCompactError.TheVariants.{Failed}
use Rattle.reg_pen.specs.declared.keep.Kept.{Kept}
use Rattle.reg_pen.specs.declared.keep.Kept.TheVariants.{Taken, Declined, Lost, Unknown}
use Rattle.reg_pen.specs.declared.keep.Lack.TheVariants as lacks
use Rattle.reg_records.specs.Written.{HasLine}
use Rattle.reg_records.specs.declared.key.Key.{Key}
use Rattle.reg_records.specs.declared.key.Key.TheVariants as keys
use Rattle.reg_records.specs.declared.limits.TheConstants.{LOG_LINES, OFFSET_LIMIT}
use Rattle.reg_records.specs.declared.log.LogFault.{LogFault}
use Rattle.reg_records.specs.declared.record.Record.{Record}
use Rattle.reg_file_keep.specs.KeepState.{KeepState}
use Rattle.reg_file_keep.specs.Next.{next_behind}

-- what became of a batch that isn't acknowledged: nothing of it is there, or it may be there or not
abbrev pub kept_of : AppendError → Kept
kept_of errors.LineTooLong = Declined lacks.Numbers
kept_of errors.TooManyLines = Declined lacks.Numbers
kept_of errors.OutOfMemory = Declined lacks.Memory
kept_of errors.Changed = Lost
kept_of errors.Unnamed = Lost
kept_of errors.Failed = Lost
kept_of errors.Broken = Lost

abbrev is_mark_key : Key → Bool
is_mark_key keys.IdMark = true
is_mark_key _ = false

-- the batch is a mark of ids and nothing else, as a start may owe it
abbrev pub is_mark : List Record → Bool
is_mark (r ∷ []) = is_mark_key r.key
is_mark _ = false

-- how many lines stay free behind a batch: one, for the mark of ids that the next start may owe, but none behind that mark
abbrev pub free_behind : List Record → ℕ
free_behind batch = if is_mark batch then 0 else 1

-- the file says a compaction of what was said before
abbrev pub says_compaction : Result Said (ℕ × LogFault) → List ℕ → Type 0
says_compaction before file = SaysCompaction before (said file)

-- the file says a compaction of what was said before, without the batch or with all of it behind
abbrev pub SaysCompactionOrMore : Result Said (ℕ × LogFault) → List Record → List ℕ → Type 0
SaysCompactionOrMore before batch file = (kept : Result Said (ℕ × LogFault)) × SaysCompaction before kept × IsBeforeOrAfter kept batch file

-- unless the journal is broken, its file says a floor no higher than that
abbrev pub HasFloorUpTo : {D : Type 0} → (D → List ℕ) → ℕ → JournalState D → Type 0
HasFloorUpTo seen floor journal = journal.is_broken ≡ false → IfOk (said (seen journal.disk)) (λ says. says.floor ≤ floor)

-- nothing was due, a batch passed
pub record Passes {D : Type 0} (old new : KeepState D) : Type 0 where
  pub patience : new.patience ≡ old.patience - 1
  pub floor : new.floor ≡ old.floor
  pub fault : new.fault ≡ old.fault

-- the file was compacted, to the floor that was due
abbrev pub WasCompacted : {D : Type 0} → Type 0 → (D → List ℕ) → KeepState D → KeepState D → Type 0
WasCompacted is_modelled seen old new =
    is_modelled → IsCompactedBy (Some (min old.floor OFFSET_LIMIT)) (seen old.journal.disk) (seen new.journal.disk)

-- the lines were counted; or the file was compacted, and the next compaction goes to the offset that is the next one now
pub record Counts {D : Type 0} (compacted : Type 0) (old new : KeepState D) : Type 0 where
  pub patience : new.patience ≡ 0
  pub floor : (new.floor ≡ old.floor) ⊎ ((new.floor ≡ max old.floor old.next) × compacted)
  pub fault : new.fault ≡ None

-- it failed, which is a disk's fault only where a disk gave one, and is tried again after 1,000 batches
pub record Fails {D : Type 0} (gave : Type 0) (old new : KeepState D) : Type 0 where
  pub error : JournalCompactError
  pub cause : error ≡ Failed → gave
  pub patience : new.patience ≡ 1000
  pub floor : new.floor ≡ old.floor
  pub fault : new.fault ≡ Some error

-- a compaction is tried only where no batch is to pass before
abbrev pub Tries : {D : Type 0} → (compacted gave : Type 0) → KeepState D → KeepState D → Type 0
Tries compacted gave old new = Passes old new ⊎ ((old.patience ≡ 0) × (Counts compacted old new ⊎ Fails gave old new))

-- what a keep knows of its file is the same, but for the next offset
pub record KnowsTheSame {D : Type 0} (old new : KeepState D) : Type 0 where
  pub patience : new.patience ≡ old.patience
  pub floor : new.floor ≡ old.floor
  pub fault : new.fault ≡ old.fault

-- what making room does: unless the journal is broken then, its file says a compaction of what it said, to no higher floor than
-- the next one, so that each delete from there on stays; only a renewal that gave a fault breaks it
pub record MakesRoom {D : Type 0} (is_modelled : Type 0) (seen : D → List ℕ) (faults : D → DiskError → D → Type 0)
    (renewals : D → RenewError → D → Type 0) (old new : KeepState D) : Type 0 where
  pub says : is_modelled → new.journal.is_broken ≡ false → SaysCompaction (said (seen old.journal.disk)) (said (seen new.journal.disk))
  pub low : is_modelled → HasFloorUpTo seen old.floor new.journal
  pub still : 0 < old.patience → new.journal ≡ old.journal
  pub next : new.next ≡ old.next
  pub tries : Tries (WasCompacted is_modelled seen old new) (GaveFault faults new.journal.disk ⊎ GaveFault renewals new.journal.disk) old new
  pub lost : is_modelled → old.journal.is_broken ≡ false → new.journal.is_broken ≡ true → GaveFault renewals new.journal.disk

-- what the journal's file says after what became of a batch: a compaction of what it said, and all
-- of a batch that was taken behind it, none of it below the floor that is said; whether a batch stands is known, or never will be
abbrev pub Ends : {D : Type 0} → Type 0 → (D → List ℕ) → JournalState D → List Record → Kept → JournalState D → Type 0
Ends is_modelled seen old batch Taken new =
    (new.is_broken ≡ false)
    × (is_modelled → (kept : Result Said (ℕ × LogFault)) × SaysCompaction (said (seen old.disk)) kept
    × IsFromFloor batch kept × (said (seen new.disk) ≡ with_batch batch kept))
Ends is_modelled seen old batch (Declined lack) new = (new.is_broken ≡ false)
    × (is_modelled → SaysCompaction (said (seen old.disk)) (said (seen new.disk)))
Ends is_modelled seen old batch Lost new = new.is_broken ≡ true
Ends is_modelled seen old batch Unknown new = ⊥

-- a batch can't be kept: not each record has a line and is from the floor on, a line is too long, or too few lines would stay free
abbrev pub CannotStand : {D : Type 0} → KeepState D → List Record → KeepState D → Type 0
CannotStand old batch new = (All HasLine batch × All (λ r. old.floor ≤ r.offset) batch → ⊥)
    ⊎ HasLongLine batch ⊎ (LOG_LINES - free_behind batch - new.journal.lines < length batch)

-- why a batch isn't taken; one is lost only where one was before, where the disk gave a fault, or where it said that the path doesn't name
-- the file any more; nobody else writes, and the file is all that there is
abbrev pub HasReason : {D : Type 0} → Type 0 → (D → DiskError → D → Type 0) → (D → RenewError → D → Type 0) → (D → Bool → Type 0)
    → KeepState D → List Record → Kept → KeepState D → Type 0
HasReason is_modelled faults renewals named old batch Taken new = ⊤
HasReason is_modelled faults renewals named old batch (Declined lacks.Memory) new = ⊤
HasReason is_modelled faults renewals named old batch (Declined lacks.Numbers) new = CannotStand old batch new
HasReason is_modelled faults renewals named old batch (Declined lacks.Overtaken) new = ⊥
HasReason is_modelled faults renewals named old batch (Declined lacks.Store) new = ⊥
HasReason is_modelled faults renewals named old batch Lost new = is_modelled → (old.journal.is_broken ≡ true)
    ⊎ GaveFault faults new.journal.disk ⊎ GaveFault renewals new.journal.disk ⊎ named new.journal.disk false
    ⊎ ((end : ℕ) × IsTooLarge end batch)
HasReason is_modelled faults renewals named old batch Unknown new = ⊥

-- the next offset behind a batch that is taken
abbrev pub next_after : ℕ → List Record → Kept → ℕ
next_after next batch Taken = next_behind next batch
next_after next batch (Declined lack) = next
next_after next batch Lost = next
next_after next batch Unknown = next

-- a batch that is taken stands in the file, whole, behind what was said or a compaction of it, and the path named that file once all of it
-- was on the disk; of one that is declined
-- nothing does; one that is lost breaks the journal for good; from the answer on each crash leaves the file as it is; a
-- crash at any moment leaves a file without the batch or with all of it
pub record KeepsFile {D : Type 0} (is_modelled : Type 0) (moment : D → ℕ) (left_since : D → ℕ → List ℕ → Type 0)
    (may_leave : D → List ℕ → Type 0) (seen : D → List ℕ) (faults : D → DiskError → D → Type 0)
    (renewals : D → RenewError → D → Type 0) (named : D → Bool → Type 0) (old : KeepState D) (batch : List Record) (kept : Kept)
    (new : KeepState D) : Type 0 where
  pub ends : Ends is_modelled seen old.journal batch kept new.journal
  pub durable : is_modelled → new.journal.is_broken ≡ false → Only (seen new.journal.disk) (may_leave new.journal.disk)
  pub any_moment : is_modelled → old.journal.is_broken ≡ false
      → LeavesOnly moment left_since may_leave old.journal.disk new.journal.disk
      (SaysCompactionOrMore (said (seen old.journal.disk)) batch)
  pub broken : old.journal.is_broken ≡ true → (kept ≡ Lost) × (new ≡ old)
  pub has_name : is_modelled → kept ≡ Taken → named new.journal.disk true
  pub reason : HasReason is_modelled faults renewals named old batch kept new
  -- what was appended counts for the floor of the next compaction, a delete from the floor on stays, and what is known of the
  -- file is what making room made of it: the floor rises with a compaction alone, and one that failed isn't tried again at once
  pub counts : new.next ≡ next_after old.next batch kept
  pub stays : is_modelled → HasFloorUpTo seen old.floor new.journal
  pub tries : (new ≡ old) ⊎ ((room : KeepState D) × MakesRoom is_modelled seen faults renewals old room × KnowsTheSame room new)
