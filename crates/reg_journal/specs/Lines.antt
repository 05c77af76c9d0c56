-- What the lines of a file say, and lines with what they say.
use Rattle.std.specs.Prelude.{◌≡◌, ◌⊎◌, ⊤, ◌<◌, ◌≤◌, ℕ, List, [], ◌∷◌, ◌++◌, length, map, Result, Ok}
use Rattle.std.specs.Result.{result_map_both}
use Rattle.reg_records.specs.Floor.{floor_text}
use Rattle.reg_records.specs.Line.{reading}
use Rattle.reg_records.specs.Log.{LogText, log_of}
use Rattle.reg_records.specs.Pieces.{HasNoLineFeed}
use Rattle.reg_records.specs.Written.{line_text}
use Rattle.reg_records.specs.declared.limits.TheConstants.{LOG_LINES, OFFSET_LIMIT}
use Rattle.reg_records.specs.declared.log.LogFault.{LogFault}
use Rattle.reg_records.specs.declared.record.Read.{Read}
use Rattle.reg_records.specs.declared.record.Read.TheVariants as reads
use Rattle.reg_records.specs.declared.record.Record.{Record}

-- what the lines of a log say: its floor, 0 where none says one, and what the others say, in their order
pub record Said : Type 0 where
  pub floor : ℕ
  pub reads : List Read

-- what the lines of a file say up to its first empty line, or the first fault that they have
abbrev pub said : List ℕ → Result Said (ℕ × LogFault)
said file = result_map_both (λ (log : LogText). record { floor = log.floor; reads = log.reads }) (λ fault. fault) (log_of file)

-- what the lines of a batch say
abbrev pub batch_reads : List Record → List Read
batch_reads batch = map reads.Record batch

-- what was said, and the batch behind it
abbrev pub with_batch : List Record → Result Said (ℕ × LogFault) → Result Said (ℕ × LogFault)
with_batch batch before = result_map_both (λ (says : Said). record says { reads = says.reads ++ batch_reads batch }) (λ fault. fault) before

-- the file says what was said before, or that with the whole batch
abbrev pub IsBeforeOrAfter : Result Said (ℕ × LogFault) → List Record → List ℕ → Type 0
IsBeforeOrAfter before batch file = (said file ≡ before) ⊎ (said file ≡ with_batch batch before)

-- the lines, each with its LF
abbrev pub text_of : List (List ℕ) → List ℕ
text_of [] = []
text_of (line ∷ lines) = line ++ 10 ∷ text_of lines

-- each line has some bytes and no LF, and says this
abbrev pub Say : List (List ℕ) → List Read → Type 0
Say [] [] = ⊤
Say (line ∷ lines) (read ∷ more) = (0 < length line) × HasNoLineFeed line × (reading line ≡ Ok read) × Say lines more
Say [] (read ∷ more) = ⊥
Say (line ∷ lines) [] = ⊥

-- no line, for a floor of 0, or the line of the floor
abbrev pub SaysFloor : List (List ℕ) → ℕ → Type 0
SaysFloor [] floor = floor ≡ 0
SaysFloor (line ∷ []) floor = (line ≡ floor_text floor) × (floor ≤ OFFSET_LIMIT)
SaysFloor (line ∷ next ∷ more) floor = ⊥

-- the lines of a log: that of its floor, if one says it, and those that say this
pub record SayLog (lines : List (List ℕ)) (given : ℕ) (read : List Read) : Type 0 where
  pub front : List (List ℕ)
  pub others : List (List ℕ)
  pub parts : lines ≡ front ++ others
  pub floor : SaysFloor front given
  pub say : Say others read

-- the lines of a batch
abbrev pub batch_lines : List Record → List (List ℕ)
batch_lines batch = map line_text batch

-- lines that say this are a log of it
abbrev pub LinesAreRead : Type 0
LinesAreRead = (lines : List (List ℕ)) (floor : ℕ) (read : List Read) → SayLog lines floor read → length lines ≤ LOG_LINES
    → log_of (text_of lines) ≡ Ok (record { floor = floor; reads = read; rest = [] })

-- so are lines with an empty line and more behind them
abbrev pub EndedLinesAreRead : Type 0
EndedLinesAreRead = (lines : List (List ℕ)) (floor : ℕ) (read : List Read) (rest : List ℕ)
    → SayLog lines floor read
    → length lines ≤ LOG_LINES
    → log_of (text_of lines ++ 10 ∷ rest) ≡ Ok (record { floor = floor; reads = read; rest = rest })

-- a log is lines that say what it says, with an empty line and more behind them, or nothing
abbrev pub LogsAreLines : Type 0
LogsAreLines = (text : List ℕ) (log : LogText) → log_of text ≡ Ok log
    → (lines : List (List ℕ)) × SayLog lines log.floor log.reads × (length lines ≤ LOG_LINES)
    × ((text ≡ text_of lines ++ 10 ∷ log.rest) ⊎ ((text ≡ text_of lines) × (log.rest ≡ [])))
