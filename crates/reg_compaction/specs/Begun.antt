-- Private: what a log gives to the walk over its lines.
use Rattle.std.specs.Prelude.{◌≡◌, ◌≤◌, ℕ, ◌-◌, List, length, Option, Some, None, Ok, nat_eq, if◌then◌else◌}
use Rattle.std.specs.FinSet.{from_list}
use Rattle.reg_floored.specs.Floors.{compacted_to}
use Rattle.reg_records.specs.Log.{LogText, log_of, next_of, records_in}
use Rattle.reg_set.specs.LastRecords.{last_records}
use Rattle.reg_compaction.specs.declared.compacting.Begun.{Begun}

-- the offset before that one
abbrev pub before : ℕ → Option ℕ
before next = if nat_eq next 0 then None else Some (next - 1)

pub record Begins (text : List ℕ) (begun : Begun) : Type 0 where
  pub log : LogText
  pub read : log_of text ≡ Ok log
  pub waiting : begun.waiting ≡ last_records (from_list (records_in log.reads))
  pub top : begun.top ≡ before (next_of log.floor log.reads)
  pub count : begun.count ≡ length log.reads

-- what one does that is to have that floor
pub record BeginsTo (given : ℕ) (text : List ℕ) (begun : Begun) : Type 0 where
  pub log : LogText
  pub read : log_of text ≡ Ok log
  pub rises : log.floor ≤ given
  pub within : given ≤ next_of log.floor log.reads
  pub waiting : begun.waiting ≡ compacted_to given (from_list (records_in log.reads))
  pub top : begun.top ≡ before (next_of log.floor log.reads)
  pub count : begun.count ≡ length log.reads
