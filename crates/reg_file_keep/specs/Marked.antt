-- What a log says that is kept: with the mark of ids that it lacked.
use Rattle.std.specs.Prelude.{◌≡◌, ◌⊎◌, ◌≤◌, ℕ, List, [], ◌∷◌, ◌++◌, All, Bool, true, false, not, ◌&&◌, nat_le, nat_lt, Result, Ok, if◌then◌else◌}
use Rattle.std.specs.FinSet.{from_list}
use Rattle.std.specs.Result.{result_map_both}
use Rattle.reg_compaction.specs.Lacking.{has_mark, mark_at, named_id, unmarked_id}
use Rattle.reg_leader.specs.reg_fold.Closed.{is_closed}
use Rattle.reg_leader.specs.reg_fold.IdMark.{last_id}
use Rattle.reg_journal.specs.Lines.{Said, batch_reads, said}
use Rattle.reg_records.specs.Log.{IsLogOf, next_of, records_in}
use Rattle.reg_records.specs.declared.limits.TheConstants.{OFFSET_LIMIT}
use Rattle.reg_records.specs.declared.log.Log.{Log}
use Rattle.reg_records.specs.declared.log.LogFault.{LogFault}
use Rattle.reg_records.specs.declared.record.Record.{Record}
use Rattle.reg_leader.specs.reg_set.LastRecords.{last_records}

-- the registry over the last records takes commands, and an offset is left
abbrev pub takes_mark : List Record → ℕ → Bool
takes_mark rs next = not (is_closed (last_records (from_list rs))) && nat_le next OFFSET_LIMIT

-- whether records without a mark name an id above each one that a version has: its lines are superseded or can't be read
abbrev pub names_above : List Record → Bool
names_above rs = nat_lt (last_id (last_records (from_list rs))) (unmarked_id rs)

-- the mark of that id, at the next offset, where it is taken; where versions have the greatest id, a topic begins with the mark
abbrev pub lacked : List Record → ℕ → List Record
lacked rs next = if names_above rs && takes_mark rs next then mark_at next (unmarked_id rs) ∷ [] else []

-- that of what was said
abbrev pub lacked_by : Said → List Record
lacked_by says = lacked (records_in says.reads) (next_of says.floor says.reads)

-- what was said, and the mark behind it
abbrev pub marked : Result Said (ℕ × LogFault) → Result Said (ℕ × LogFault)
marked before = result_map_both (λ (says : Said). record says { reads = says.reads ++ batch_reads (lacked_by says) }) (λ fault. fault) before

-- the log is what was said
abbrev pub IsLogSaid : Result Said (ℕ × LogFault) → Log → Type 0
IsLogSaid outcome log = (says : Said) × (outcome ≡ Ok says) × IsLogOf says.floor says.reads log

-- the file says what was said, without the mark or with it
abbrev pub SaysMarkedOrNot : Result Said (ℕ × LogFault) → List ℕ → Type 0
SaysMarkedOrNot before file = (said file ≡ before) ⊎ (said file ≡ marked before)

-- where what was said has no mark and takes one, each id that was named is at most the greatest that the log marks or a version has
abbrev pub MarkCovers : Result Said (ℕ × LogFault) → Log → Type 0
MarkCovers outcome log = (says : Said) → outcome ≡ Ok says → has_mark (records_in says.reads) ≡ false
    → takes_mark (records_in says.reads) (next_of says.floor says.reads) ≡ true
    → All (λ r. named_id r ≤ last_id (last_records (from_list log.records.items))) (records_in says.reads)
