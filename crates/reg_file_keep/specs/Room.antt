-- When a file is compacted.
use Rattle.std.specs.Prelude.{ℕ, ◌+◌, ◌-◌, ◌*◌, ◌/◌, max, min, ◌^◌, ◌||◌, nat_eq, nat_lt, nat_le, Option, Some, None, if◌then◌else◌}
use Rattle.reg_records.specs.declared.limits.TheConstants.{LOG_LINES}
use Rattle.reg_file_keep.specs.declared.room.Room.{Room}

-- the lines are counted again where there are a quarter more, and twice as many as would have stayed
abbrev pub next_count : ℕ → ℕ → ℕ
next_count kept lines = max (min (lines + lines / 4) (2 ^ 64 - 1)) (min (kept * 2) (2 ^ 64 - 1))

-- how many lines of a full log would have to go: one before they were ever counted, then a tenth of them, or more
abbrev pub least : Room → ℕ → ℕ
least room lines = if nat_eq room.again 0 then 1 else ((lines + 9) / 10)

-- so many where the log would have too many lines; more than half where it comes to have many, and they are to be counted again
abbrev pub due : Room → ℕ → ℕ → Option ℕ
due room lines more =
    if nat_lt (LOG_LINES - lines) more then (if nat_lt (lines - room.kept) (least room lines) then None else Some (least room lines))
    else (if nat_le more (100000 - lines) || nat_le lines room.again then None else Some (lines / 2 + 1))

-- one batch has passed, where some are to pass
abbrev pub waited : Room → Room
waited room = record room { patience = room.patience - 1 }
