-- Private: what a keep knows of its file.
use Rattle.std.specs.Prelude.{ℕ, ◌-◌, max, nat_lt, None, if◌then◌else◌}
use Rattle.reg_journal.specs.JournalState.{JournalState}
use Rattle.reg_file_keep.specs.KeepState.{KeepState}
use Rattle.reg_file_keep.specs.Room.{next_count}
use Rattle.reg_file_keep.specs.declared.upkeep.Upkeep.{Upkeep}

-- what contracts see of it, with its journal
abbrev pub state_of : {D : Type 0} → JournalState D → Upkeep → KeepState D
state_of journal upkeep = record {
  journal = journal;
  floor = upkeep.floor;
  next = upkeep.next;
  patience = upkeep.room.patience;
  fault = upkeep.fault;
}

-- where the file was compacted, its floor rises to the next offset at the next compaction, and nothing is known of the deletes that stay
abbrev pub after_count : Upkeep → ℕ → ℕ → ℕ → Upkeep
after_count upkeep kept lines least = if nat_lt (lines - kept) least
    then record upkeep { room = record { kept = kept; again = next_count kept lines; patience = 0 }; fault = None }
    else record upkeep
    { room = record { kept = 0; again = next_count kept kept; patience = 0 }; floor = max upkeep.floor upkeep.next; fault = None }
