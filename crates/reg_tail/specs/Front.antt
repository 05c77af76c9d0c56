-- The floor that a file says.
use Rattle.std.specs.Prelude.{◌≡◌, ◌≤◌, ◌<◌, ℕ, suc, List, ◌∷◌, ◌++◌, length, Err}
use Rattle.std.specs.List.{slice_split}
use Rattle.reg_journal.specs.Lines.{SaysFloor, text_of}
use Rattle.reg_records.specs.Floor.{floor_text}
use Rattle.reg_records.specs.Line.{is_line_feed}
use Rattle.reg_records.specs.Log.{log_from, log_of}
use Rattle.reg_records.specs.declared.limits.TheConstants.{OFFSET_LIMIT}
use Rattle.reg_records.specs.declared.log.LogFault.{LogFault}
use Rattle.reg_tail.specs.declared.front.Front.{Front}

-- the file's first line says that floor
abbrev pub HasFloor : List ℕ → ℕ → Type 0
HasFloor file floor = (floor ≤ OFFSET_LIMIT) × (rest : List ℕ) × (file ≡ floor_text floor ++ 10 ∷ rest)

-- it is above the offset from which the file is asked for; from offset 0 on, all of the file is
abbrev pub HasFloorAbove : ℕ → List ℕ → ℕ → Type 0
HasFloorAbove from file floor = (0 < from) × (from < floor) × HasFloor file floor

-- no floor is above it
abbrev pub HasNoFloorAbove : ℕ → List ℕ → Type 0
HasNoFloorAbove from file = (floor : ℕ) → HasFloorAbove from file floor → ⊥

-- Private: the file begins with that line of its floor, or has none.
pub record BeginsAs (file : List ℕ) (front : Front) : Type 0 where
  pub lines : List (List ℕ)
  pub rest : List ℕ
  pub parts : file ≡ text_of lines ++ rest
  pub floor : SaysFloor lines front.floor
  pub len : front.len ≡ length (text_of lines)
  pub count : front.lines ≡ length lines
  pub only : (floor : ℕ) → HasFloor file floor → front.floor ≡ floor
  pub faults : (line : ℕ) (fault : LogFault)
      → log_from (suc (length lines)) (slice_split is_line_feed rest) ≡ Err (line, fault)
      → log_of file ≡ Err (line, fault)

-- the line of its floor has that fault
abbrev pub HasFloorFault : List ℕ → LogFault → Type 0
HasFloorFault file fault = (log_of file ≡ Err (1, fault)) × ((floor : ℕ) → HasFloor file floor → ⊥)
