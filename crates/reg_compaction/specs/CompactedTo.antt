-- What compacting a log to a floor makes of it, or why it isn't compacted.
use Rattle.std.specs.Prelude.{◌≡◌, ◌⊎◌, ◌≤◌, ◌<◌, ℕ, ◌+◌, List, [], ◌∷◌, ◌++◌, length}
use Rattle.std.specs.Prelude.{count_by, nat_eq, Option, Some, None, Ok, if◌then◌else◌}
use Rattle.std.specs.FinSet.{from_list}
use Rattle.reg_journal.specs.Found.{HasFault}
use Rattle.reg_journal.specs.Lines.{text_of}
use Rattle.reg_floored.specs.Floors.{compacted_to}
use Rattle.reg_records.specs.Floor.{floor_text}
use Rattle.reg_records.specs.Line.{is_line_feed}
use Rattle.reg_records.specs.Log.{LogText, log_of, next_of, records_in}
use Rattle.reg_records.specs.declared.limits.TheConstants.{LOG_LINES}
use Rattle.reg_compaction.specs.Compacted.{IsCompacted}
use Rattle.reg_compaction.specs.declared.to_floor.ToFloorError.{ToFloorError}
use Rattle.reg_compaction.specs.declared.to_floor.ToFloorError.TheVariants.{Log, FloorBelow, FloorAhead, NoRoom}

-- the line of a floor; 0 needs none
abbrev pub floor_lines : ℕ → List (List ℕ)
floor_lines floor = if nat_eq floor 0 then [] else floor_text floor ∷ []

-- the output is a log with the given floor, which the input may have, whose records are those that compacting to it keeps of
-- the input's, and whose next offset is the same, in no more bytes than the input and the floor's line
pub record IsCompactedTo (given : ℕ) (input output : List ℕ) : Type 0 where
  pub log : LogText
  pub read : log_of input ≡ Ok log
  pub rises : log.floor ≤ given
  pub within : given ≤ next_of log.floor log.reads
  pub out : LogText
  pub read_back : log_of output ≡ Ok out
  pub whole : out.rest ≡ []
  pub floor : out.floor ≡ given
  pub lasts : from_list (records_in out.reads) ≡ compacted_to given (from_list (records_in log.reads))
  pub next : next_of out.floor out.reads ≡ next_of log.floor log.reads
  pub small : length output ≤ length (text_of (floor_lines given)) + length input

-- the log may have that floor, and the floor has a line, but the log has as many
-- other lines as a log may have, and each of their records stays
pub record HasNoRoom (text : List ℕ) (given : ℕ) : Type 0 where
  pub log : LogText
  pub read : log_of text ≡ Ok log
  pub rises : log.floor ≤ given
  pub within : given ≤ next_of log.floor log.reads
  pub has_line : 0 < given
  pub full : length log.reads ≡ LOG_LINES
  pub stay : compacted_to given (from_list (records_in log.reads)) ≡ from_list (records_in log.reads)

-- the log has a fault; the floor is lower than its own, or above its next offset; or there is no room for the floor's line
abbrev pub IsToFloorRefusal : List ℕ → ℕ → ToFloorError → Type 0
IsToFloorRefusal text given (Log e) = HasFault text e
IsToFloorRefusal text given (FloorBelow own) = (log : LogText) × (log_of text ≡ Ok log) × (own ≡ log.floor) × (given < own)
IsToFloorRefusal text given (FloorAhead next) = (log : LogText) × (log_of text ≡ Ok log)
    × (next ≡ next_of log.floor log.reads) × (next < given)
IsToFloorRefusal text given NoRoom = HasNoRoom text given

-- the log can't have that floor: it is lower than its own, or above its next offset, or there is no room for its line
abbrev pub LacksFloor : List ℕ → ℕ → Type 0
LacksFloor text given = ((log : LogText) × (log_of text ≡ Ok log) × ((given < log.floor) ⊎ (next_of log.floor log.reads < given)))
    ⊎ HasNoRoom text given

-- a compaction to the floor that is asked for; where none is, or the log can't have it, one at its own
abbrev pub IsCompactedBy : Option ℕ → List ℕ → List ℕ → Type 0
IsCompactedBy None input output = IsCompacted input output
IsCompactedBy (Some floor) input output = IsCompactedTo floor input output ⊎ (LacksFloor input floor × IsCompacted input output)

-- a compaction of the file is so many lines, and an empty one behind them
abbrev pub HasKept : Option ℕ → List ℕ → ℕ → Type 0
HasKept floor file kept = (text : List ℕ) × IsCompactedBy floor file (text ++ 10 ∷ []) × (count_by is_line_feed text ≡ kept)
