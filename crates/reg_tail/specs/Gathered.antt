-- Private: what is gathered of the lines of a piece.
use Rattle.std.specs.Prelude.{◌≡◌, ℕ, suc, ◌+◌, max, List, [], ◌∷◌, ◌++◌, length, Err}
use Rattle.std.specs.List.{slice_split}
use Rattle.reg_journal.specs.Lines.{Say, SaysFloor, text_of}
use Rattle.reg_records.specs.Line.{is_line_feed}
use Rattle.reg_records.specs.Log.{log_from, log_of}
use Rattle.reg_records.specs.declared.log.LogFault.{LogFault}
use Rattle.reg_records.specs.declared.record.Read.{Read}
use Rattle.reg_tail.specs.Front.{HasNoFloorAbove}
use Rattle.reg_tail.specs.Line.{IsFront}
use Rattle.reg_tail.specs.Tail.{HasPassed, front_from, lines_from}
use Rattle.reg_tail.specs.declared.gathered.Gathered.{Gathered}

-- the piece is lines that were gathered, and the rest
pub record Gathers (piece rest : List ℕ) (old new : Gathered) : Type 0 where
  pub lines : List (List ℕ)
  pub read : List Read
  pub parts : piece ≡ text_of lines ++ rest
  pub say : Say lines read
  pub given : new.text.items ≡ old.text.items ++ text_of (lines_from old.tail.from lines read)
  pub passed : HasPassed lines read old.tail new.tail

-- the line at the front was gathered
pub record Takes (text : List ℕ) (old new : Gathered) (len : ℕ) : Type 0 where
  pub read : Read
  pub front : IsFront (old.tail.lines + 1) text len read
  pub given : new.text.items ≡ old.text.items ++ text_of (lines_from old.tail.from (front.line ∷ []) (read ∷ []))
  pub passed : HasPassed (front.line ∷ []) (read ∷ []) old.tail new.tail

-- the line of the file's floor was passed, and given where the file is asked for from offset 0 on; no floor is above that offset
pub record BeginsFrom (asked : ℕ) (file : List ℕ) (begun : Gathered) : Type 0 where
  pub lines : List (List ℕ)
  pub floor : ℕ
  pub rest : List ℕ
  pub parts : file ≡ text_of lines ++ rest
  pub says : SaysFloor lines floor
  pub fits : HasNoFloorAbove asked file
  pub faults : (line : ℕ) (fault : LogFault)
      → log_from (suc (length lines)) (slice_split is_line_feed rest) ≡ Err (line, fault)
      → log_of file ≡ Err (line, fault)
  pub given : begun.text.items ≡ text_of (front_from asked lines)
  pub place : begun.tail.place ≡ length (text_of lines)
  pub count : begun.tail.lines ≡ length lines
  pub from : begun.tail.from ≡ asked
  pub next : begun.tail.next ≡ max asked floor
