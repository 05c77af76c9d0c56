-- What a file says after a compaction.
use Rattle.std.specs.Prelude.{◌≡◌, ◌≤◌, ℕ, List, Option, Result, Ok, All, IfOk}
use Rattle.std.specs.FinSet.{from_list}
use Rattle.reg_journal.specs.Lines.{Said, said, with_batch}
use Rattle.reg_floored.specs.Compaction.{IsCompactionOf}
use Rattle.reg_floored.specs.Floored.{Floored}
use Rattle.reg_records.specs.Log.{next_of, records_in}
use Rattle.reg_records.specs.declared.log.LogFault.{LogFault}
use Rattle.reg_records.specs.declared.record.Record.{Record}
use Rattle.reg_compaction.specs.CompactedTo.{IsCompactedBy}

-- the set of the records that are said, with the floor
abbrev pub floored : Said → Floored
floored says = record { records = from_list (records_in says.reads); floor = says.floor }

-- now a compaction of the records is said that were said before, with a floor that is no lower, and the same next offset
pub record SaysCompaction (before now : Result Said (ℕ × LogFault)) : Type 0 where
  pub whole : Said
  pub left : Said
  pub said_before : before ≡ Ok whole
  pub said_now : now ≡ Ok left
  pub records : IsCompactionOf (floored left) (floored whole)
  pub next : next_of left.floor left.reads ≡ next_of whole.floor whole.reads

-- no record of the batch is below the floor that is said
abbrev pub IsFromFloor : List Record → Result Said (ℕ × LogFault) → Type 0
IsFromFloor batch before = IfOk before (λ says. All (λ r. says.floor ≤ r.offset) batch)

-- a file that is compacted says a compaction
abbrev pub CompactedFilesSayIt : Type 0
CompactedFilesSayIt = (floor : Option ℕ) (file output : List ℕ) → IsCompactedBy floor file output → SaysCompaction (said file) (said output)

-- a log is a compaction of itself
abbrev pub EachSaysItsOwnCompaction : Type 0
EachSaysItsOwnCompaction = (says : Said) → SaysCompaction (Ok says) (Ok says)

-- a compaction of a compaction is one of the whole
abbrev pub SaidCompactionsCompose : Type 0
SaidCompactionsCompose = (first next last : Result Said (ℕ × LogFault))
    → SaysCompaction first next
    → SaysCompaction next last
    → SaysCompaction first last

-- a batch may be added to a compaction in place of the whole, where none of it is below the compaction's floor
abbrev pub BatchesFollowCompactions : Type 0
BatchesFollowCompactions = (batch : List Record) (before now : Result Said (ℕ × LogFault))
    → SaysCompaction before now
    → IsFromFloor batch now
    → SaysCompaction (with_batch batch before) (with_batch batch now)
