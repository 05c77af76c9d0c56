-- What a log holds, in numbers.
use Rattle.std.specs.Prelude.{ℕ, List, true, not, count_by, length, nat_eq, Option, Some, None, if◌then◌else◌}
use Rattle.std.specs.FinSet.{from_list}
use Rattle.std.specs.Option.{option_or}
use Rattle.reg_compaction.specs.Lacking.{unmarked_id}
use Rattle.reg_fold.specs.reg_records.Log.{is_foreign, next_of, records_in}
use Rattle.reg_fold.specs.reg_records.declared.log.Log.{Log}
use Rattle.reg_fold.specs.reg_records.declared.record.Read.{Read}
use Rattle.reg_fold.specs.reg_records.declared.record.Record.{Record}
use Rattle.reg_fold.specs.reg_set.LastRecords.{last_records}
use Rattle.reg_fold.specs.reg_set.Records.{Records}
use Rattle.reg_fold.specs.reg_entries.Sought.{subjects}
use Rattle.reg_fold.specs.reg_entries.declared.entry.Entry.{Entry}
use Rattle.reg_fold.specs.Entries.{entries}
use Rattle.reg_fold.specs.IdMark.{needs_mark}
use Rattle.reg_fold.specs.Standing.{greatest_id}
use Rattle.reg_inspection.specs.Shared.{ids_of}
use Rattle.reg_inspection.specs.declared.counts.Counts.{Counts}

-- the last records of what lines say
abbrev pub lasts_in : List Read → Records
lasts_in read = last_records (from_list (records_in read))

-- an id, unless it is 0
abbrev pub some_id : ℕ → Option ℕ
some_id id = if nat_eq id 0 then None else Some id

-- the id that a mark is due for, where records without one name that id, or have a mark for 0: that one, or the greatest id of
-- an entry, where no mark covers it
abbrev pub due_by : ℕ → Records → Option ℕ
due_by unmarked lasts = option_or (some_id unmarked) (if needs_mark lasts then greatest_id lasts else None)

-- so it is for the records of a log
abbrev pub mark_due : List Record → Option ℕ
mark_due rs = due_by (unmarked_id rs) (last_records (from_list rs))

-- the records, the foreign lines, the floor and the next offset of what lines say, and of the
-- entries es the subjects, the live and the soft-deleted ones, and the ids
abbrev pub counts_by : ℕ → ℕ → ℕ → ℕ → List Entry → Counts
counts_by records foreign floor next es = record {
  records = records;
  foreign = foreign;
  floor = floor;
  next = next;
  subjects = length (subjects es true);
  live = count_by (λ e. not e.soft) es;
  deleted = count_by (λ e. e.soft) es;
  ids = length (ids_of es);
}

-- of a log, where es are its entries
abbrev pub counts_in : Log → List Entry → Counts
counts_in log es = counts_by (length log.records.items) log.foreign log.floor log.next es

-- of a floor and what lines say
abbrev pub counts_of : ℕ → List Read → Counts
counts_of floor read = counts_by (length (records_in read)) (count_by is_foreign read) floor (next_of floor read) (entries (lasts_in read))
