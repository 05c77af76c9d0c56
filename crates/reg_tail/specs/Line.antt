-- Why the lines of a piece of a file aren't given, and, private, the line at its front.
use Rattle.std.specs.Prelude.{◌≡◌, ⊤, ◌<◌, ◌≤◌, ◌+◌, ℕ, List, ◌∷◌, ◌++◌, length, Ok, Err}
use Rattle.std.specs.List.{slice_split}
use Rattle.reg_journal.specs.Lines.{Say, text_of}
use Rattle.reg_records.specs.Line.{is_line_feed, reading}
use Rattle.reg_records.specs.Log.{log_from}
use Rattle.reg_records.specs.Pieces.{HasNoLineFeed}
use Rattle.reg_records.specs.declared.limits.TheConstants.{LOG_LINES}
use Rattle.reg_records.specs.declared.record.Read.{Read}
use Rattle.reg_tail.specs.declared.error.TailError.{TailError}
use Rattle.reg_tail.specs.declared.error.TailError.TheVariants.{Line, NoEmptyLine, Floor, ReadFault, SyncFault, WriteFault, OutOfMemory}

-- the text is lines that say something, no more than a log may have, and no empty line stands behind them
pub record EndsInLines (number : ℕ) (text : List ℕ) : Type 0 where
  pub lines : List (List ℕ)
  pub read : List Read
  pub parts : text ≡ text_of lines
  pub say : Say lines read
  pub few : number + length lines ≤ LOG_LINES + 1

-- why a log isn't read on, at the line of that number
abbrev pub IsPieceRefusal : ℕ → List ℕ → TailError → Type 0
IsPieceRefusal number piece (Line line fault) = log_from number (slice_split is_line_feed piece) ≡ Err (line, fault)
IsPieceRefusal number piece NoEmptyLine = EndsInLines number piece
IsPieceRefusal number piece (Floor floor) = ⊥
IsPieceRefusal number piece ReadFault = ⊤
IsPieceRefusal number piece SyncFault = ⊥
IsPieceRefusal number piece WriteFault = ⊥
IsPieceRefusal number piece OutOfMemory = ⊤

-- the text begins with that line, which says this
pub record IsFront (number : ℕ) (text : List ℕ) (len : ℕ) (read : Read) : Type 0 where
  pub line : List ℕ
  pub behind : List ℕ
  pub parts : text ≡ line ++ 10 ∷ behind
  pub some : 0 < length line
  pub free : HasNoLineFeed line
  pub says : reading line ≡ Ok read
  pub size : len ≡ length line + 1
  pub within : number ≤ LOG_LINES
