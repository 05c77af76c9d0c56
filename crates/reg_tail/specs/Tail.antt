-- What a tail gives of a file, and where it stands then.
use Rattle.std.specs.Prelude.{◌≡◌, ⊤, ℕ, ◌+◌, ◌≤◌, max, List, [], ◌∷◌, ◌++◌, length, drop, nat_eq, nat_le, Err, if◌then◌else◌}
use Rattle.reg_journal.specs.Lines.{Say, SayLog, text_of}
use Rattle.reg_records.specs.Log.{log_of, next_after, next_of, offset_in}
use Rattle.reg_records.specs.declared.limits.TheConstants.{LOG_LINES}
use Rattle.reg_records.specs.declared.record.Read.{Read}
use Rattle.reg_tail.specs.Front.{HasFloorAbove, HasNoFloorAbove}
use Rattle.reg_tail.specs.Line.{IsPieceRefusal}
use Rattle.reg_tail.specs.declared.error.TailError.{TailError}
use Rattle.reg_tail.specs.declared.error.TailError.TheVariants.{Line, NoEmptyLine, Floor, ReadFault, SyncFault, WriteFault, OutOfMemory}
use Rattle.reg_tail.specs.declared.tail.Tail.{Tail}

-- the lines whose offset is at or above that one, of lines that say this
abbrev pub lines_from : ℕ → List (List ℕ) → List Read → List (List ℕ)
lines_from from [] more = []
lines_from from (line ∷ lines) [] = []
lines_from from (line ∷ lines) (read ∷ more) = if nat_le from (offset_in read) then line
    ∷ lines_from from lines more else lines_from from lines more

-- the line of the floor, where the file is asked for from offset 0 on
abbrev pub front_from : ℕ → List (List ℕ) → List (List ℕ)
front_from from front = if nat_eq from 0 then front else []

-- the tail stands at the empty line of a file, of which it has given this text: the lines from its offset on, each once
pub record HasGiven (tail : Tail) (file text : List ℕ) : Type 0 where
  pub lines : List (List ℕ)
  pub floor : ℕ
  pub read : List Read
  pub rest : List ℕ
  pub parts : file ≡ text_of lines ++ 10 ∷ rest
  pub say : SayLog lines floor read
  pub few : length lines ≤ LOG_LINES
  pub given : text ≡ text_of (front_from tail.from say.front ++ lines_from tail.from say.others read)
  pub place : tail.place ≡ length (text_of lines)
  pub count : tail.lines ≡ length lines
  pub next : tail.next ≡ max tail.from (next_of floor read)

-- the tail behind those lines, which say this
pub record HasPassed (lines : List (List ℕ)) (read : List Read) (old new : Tail) : Type 0 where
  pub place : new.place ≡ old.place + length (text_of lines)
  pub count : new.lines ≡ old.lines + length lines
  pub from : new.from ≡ old.from
  pub next : new.next ≡ max old.next (next_after read)

-- what it gives of the file is the lines from its place to the empty line, without those below its offset
pub record GoesOn (file : List ℕ) (old new : Tail) (text : List ℕ) : Type 0 where
  pub lines : List (List ℕ)
  pub read : List Read
  pub rest : List ℕ
  pub parts : drop old.place file ≡ text_of lines ++ 10 ∷ rest
  pub say : Say lines read
  pub given : text ≡ text_of (lines_from old.from lines read)
  pub passed : HasPassed lines read old new

-- the file is lines which say something, no more than a log may have, and no empty line stands behind them
pub record HasNoEnd (file : List ℕ) : Type 0 where
  pub lines : List (List ℕ)
  pub floor : ℕ
  pub read : List Read
  pub parts : file ≡ text_of lines
  pub say : SayLog lines floor read
  pub few : length lines ≤ LOG_LINES

-- why nothing of a file is given from that offset on
abbrev pub IsBeginRefusal : ℕ → List ℕ → TailError → Type 0
IsBeginRefusal from file (Line line fault) = (log_of file ≡ Err (line, fault)) × HasNoFloorAbove from file
IsBeginRefusal from file NoEmptyLine = HasNoEnd file × HasNoFloorAbove from file
IsBeginRefusal from file (Floor floor) = HasFloorAbove from file floor
IsBeginRefusal from file ReadFault = ⊤
IsBeginRefusal from file SyncFault = ⊤
IsBeginRefusal from file WriteFault = ⊥
IsBeginRefusal from file OutOfMemory = ⊤

-- why nothing more of it is given
abbrev pub IsMoreRefusal : List ℕ → Tail → TailError → Type 0
IsMoreRefusal file tail (Line line fault) = IsPieceRefusal (tail.lines + 1) (drop tail.place file) (Line line fault)
IsMoreRefusal file tail NoEmptyLine = IsPieceRefusal (tail.lines + 1) (drop tail.place file) NoEmptyLine
IsMoreRefusal file tail (Floor floor) = ⊥
IsMoreRefusal file tail ReadFault = ⊤
IsMoreRefusal file tail SyncFault = ⊤
IsMoreRefusal file tail WriteFault = ⊥
IsMoreRefusal file tail OutOfMemory = ⊤

-- a read failed, or memory was refused
abbrev pub IsNoReading : TailError → Type 0
IsNoReading (Line line fault) = ⊥
IsNoReading NoEmptyLine = ⊥
IsNoReading (Floor floor) = ⊥
IsNoReading ReadFault = ⊤
IsNoReading SyncFault = ⊥
IsNoReading WriteFault = ⊥
IsNoReading OutOfMemory = ⊤
