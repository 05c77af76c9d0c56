-- Compactions that have the mark of ids which their log lacks, so that no id is forgotten whose lines are dropped.
use Rattle.std.specs.Prelude.{◌≡◌, ◌⊎◌, ◌≤◌, ◌&&◌, ℕ, max, List, [], ◌∷◌, ◌++◌, nat_le, nat_lt, fold, count_by, Option, Some, None, Ok, option_and_then, if◌then◌else◌}
use Rattle.std.specs.FinSet.{contains, from_list}
use Rattle.std.specs.Option.{option_map_or}
use Rattle.reg_floored.specs.Floors.{compacted_to}
use Rattle.reg_journal.specs.Lines.{batch_lines, text_of}
use Rattle.reg_records.specs.Line.{is_line_feed}
use Rattle.reg_records.specs.Log.{LogText, log_of, records_in}
use Rattle.reg_records.specs.declared.limits.TheConstants.{LOG_LINES, OFFSET_LIMIT}
use Rattle.reg_records.specs.declared.record.Record.{Record}
use Rattle.reg_set.specs.LastRecords.{last_records}
use Rattle.reg_set.specs.Records.{Records}
use Rattle.reg_compaction.specs.Compacted.{IsCompacted}
use Rattle.reg_compaction.specs.CompactedTo.{IsCompactedTo}
use Rattle.reg_compaction.specs.Lacking.{mark_at, unmarked_id}
use Rattle.reg_compaction.specs.Sorted.{IsSortedCompaction, IsSortedCompactionTo}

-- the records that stay of some: the last ones, or those that compacting to that floor keeps
abbrev pub kept_by : Option ℕ → List Record → Records
kept_by None rs = last_records (from_list rs)
kept_by (Some floor) rs = compacted_to floor (from_list rs)

-- the greater of the two
abbrev pub greater_of : Option ℕ → ℕ → Option ℕ
greater_of None n = Some n
greater_of (Some m) n = Some (max m n)

-- the greatest offset of the records that don't stay
abbrev pub dropped_offset : Records → List Record → Option ℕ
dropped_offset kept rs = fold (λ found r. if contains kept r then found else greater_of found r.offset) None rs

-- the mark that is due, at an offset within the limit
abbrev pub mark_in : ℕ → ℕ → Option Record
mark_in id offset = if nat_lt 0 id && nat_le offset OFFSET_LIMIT then Some (mark_at offset id) else None

-- the mark that records lack, at the greatest offset of those that don't stay
abbrev pub dropped_mark : Option ℕ → List Record → Option Record
dropped_mark floor rs = option_and_then (mark_in (unmarked_id rs)) (dropped_offset (kept_by floor rs) rs)

-- the lines of a text with that of a record behind them
abbrev pub with_line : List ℕ → Record → List ℕ
with_line text r = text ++ text_of (batch_lines (r ∷ []))

-- no other line fits into the log
abbrev pub IsFull : List ℕ → Type 0
IsFull text = LOG_LINES ≤ count_by is_line_feed text

-- Private: a compaction of the text with the mark behind it; none only where no line is left for that
abbrev pub IsWithMark : List ℕ → Record → Option (List ℕ) → Type 0
IsWithMark plain mark (Some output) = IsSortedCompaction (with_line plain mark) output
IsWithMark plain mark None = IsFull plain

-- the output is a compaction of a compaction with the mark behind it; it is one without the mark only where no line is left for that
abbrev pub IsMarkedBy : (List ℕ → Type 0) → (List ℕ → Type 0) → Record → List ℕ → Type 0
IsMarkedBy IsCompaction IsInOrder mark output =
    (plain : List ℕ) × IsCompaction plain × (IsSortedCompaction (with_line plain mark) output ⊎ (IsFull plain × IsInOrder output))

-- so it is where a mark is lacked whose offset is dropped
abbrev pub IsMarked : (List ℕ → Type 0) → (List ℕ → Type 0) → Option Record → List ℕ → Type 0
IsMarked IsCompaction IsInOrder None output = IsInOrder output
IsMarked IsCompaction IsInOrder (Some mark) output = IsMarkedBy IsCompaction IsInOrder mark output

-- the output is what compacting leaves of the input, and the mark that the input lacks, by the offsets
pub record IsMarkedCompaction (input output : List ℕ) : Type 0 where
  pub log : LogText
  pub read : log_of input ≡ Ok log
  pub marked : IsMarked (IsCompacted input) (IsSortedCompaction input) (dropped_mark None (records_in log.reads)) output

-- so it is of compacting to a floor
pub record IsMarkedCompactionTo (floor : ℕ) (input output : List ℕ) : Type 0 where
  pub log : LogText
  pub read : log_of input ≡ Ok log
  pub marked : IsMarked (IsCompactedTo floor input) (IsSortedCompactionTo floor input) (dropped_mark (Some floor) (records_in log.reads)) output
