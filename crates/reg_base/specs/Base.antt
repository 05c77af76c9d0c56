-- What a store that several processes write begins with: a compaction of what a log has below an offset.
use Rattle.std.specs.Prelude.{◌≡◌, ℕ, suc, List, [], ◌∷◌, Bool, true, false, ◌&&◌, ◌||◌, is_none, nat_eq, nat_lt, Ok, if◌then◌else◌, None}
use Rattle.std.specs.FinSet.{from_list}
use Rattle.std.specs.List.{filter, list_any}
use Rattle.reg_fold.specs.reg_records.Log.{LogText, log_of, next_of, offset_in, records_in}
use Rattle.reg_fold.specs.reg_records.declared.key.Key.{Key}
use Rattle.reg_fold.specs.reg_records.declared.key.Key.TheVariants as keys
use Rattle.reg_fold.specs.reg_records.declared.record.Read.{Read}
use Rattle.reg_fold.specs.reg_records.declared.record.Record.{Record}
use Rattle.reg_fold.specs.reg_set.LastRecords.{last_records}
use Rattle.reg_fold.specs.IdMark.{needs_mark}
use Rattle.reg_compaction.specs.Marked.{IsMarkedCompaction, dropped_mark}

-- whether what a line says stands below the offset
abbrev pub is_below : ℕ → Read → Bool
is_below below read = nat_lt (offset_in read) below

-- of what lines say, what stands below it
abbrev pub reads_below : ℕ → List Read → List Read
reads_below below read = filter (is_below below) read

abbrev pub log_below : ℕ → LogText → LogText
log_below below log = record { floor = log.floor; reads = reads_below below log.reads; rest = [] }

abbrev pub records_below : ℕ → LogText → List Record
records_below below log = records_in (reads_below below log.reads)

-- a mark of ids is due behind the records, and compacting them writes none
abbrev pub owes_mark : List Record → Bool
owes_mark rs = needs_mark (last_records (from_list rs)) && is_none (dropped_mark None rs)

abbrev pub is_mark : Key → Bool
is_mark (keys.Schema subject version) = false
is_mark (keys.Config scope) = false
is_mark (keys.Mode scope) = false
is_mark (keys.DeleteSubject subject) = false
is_mark keys.Noop = false
is_mark keys.IdMark = true

abbrev pub is_version : Key → Bool
is_version (keys.Schema subject version) = true
is_version (keys.Config scope) = false
is_version (keys.Mode scope) = false
is_version (keys.DeleteSubject subject) = false
is_version keys.Noop = false
is_version keys.IdMark = false

-- whether the record may be one of a command's that stand on both sides of the offset: a mark of ids right before it, since
-- more of the command's stand behind a mark, or a version that is deleted for good at it, since one command may delete several
abbrev pub may_cross : ℕ → Record → Bool
may_cross below r = (is_mark r.key && nat_eq (suc r.offset) below) || (is_version r.key && is_none r.value && nat_eq r.offset below)

abbrev pub is_crossed : ℕ → LogText → Bool
is_crossed below log = list_any (may_cross below) (records_in log.reads)

-- what the log has below the offset ends right before it
abbrev pub EndsAt : ℕ → LogText → Type 0
EndsAt below log = next_of log.floor (reads_below below log.reads) ≡ below

-- a log may begin anew at the offset: something ends right before it, no command's records stand on both sides of it, and no
-- mark of ids is due there that isn't written
pub record MayBeginAt (below : ℕ) (log : LogText) : Type 0 where
  pub ends : EndsAt below log
  pub apart : is_crossed below log ≡ false
  pub settled : owes_mark (records_below below log) ≡ false

-- the output is a compaction of what the input has below the offset, where a log may begin anew, with the mark that it lacks
pub record IsBase (below : ℕ) (input output : List ℕ) : Type 0 where
  pub log : LogText
  pub read : log_of input ≡ Ok log
  pub begins : MayBeginAt below log
  pub part : List ℕ
  pub has : log_of part ≡ Ok (log_below below log)
  pub compacted : IsMarkedCompaction part output

-- Private: the lines of which that stands below the offset which they say
abbrev pub lines_below : ℕ → List (List ℕ) → List Read → List (List ℕ)
lines_below below [] more = []
lines_below below (line ∷ lines) [] = []
lines_below below (line ∷ lines) (read ∷ more) =
    if is_below below read then line ∷ lines_below below lines more else lines_below below lines more
