-- The lines at the front of a text.
use Rattle.std.specs.Prelude.{◌≡◌, ℕ, ◌+◌, List, ◌∷◌, ◌++◌, Ok, length, position, if◌then◌else◌}
use Rattle.std.specs.Option.{option_map_or}
use Rattle.reg_journal.specs.Lines.{Say, text_of}
use Rattle.reg_records.specs.Floor.{is_floor_line}
use Rattle.reg_records.specs.Line.{is_line_feed, reading}
use Rattle.reg_records.specs.Pieces.{HasNoLineFeed}
use Rattle.reg_records.specs.declared.record.Read.{Read}

-- how many bytes the line of a floor takes with its LF, at the front of a text; 0 where there is none
abbrev pub floor_len : List ℕ → ℕ
floor_len text = if is_floor_line text then option_map_or (λ n. n + 1) (position is_line_feed text) 0 else 0

-- the text begins with so many lines, which say this
pub record HasLines (text : List ℕ) (lines : List (List ℕ)) (read : List Read) (count : ℕ) : Type 0 where
  pub tail : List ℕ
  pub parts : text ≡ text_of lines ++ tail
  pub say : Say lines read
  pub counts : count ≡ length read

-- the text begins with that line, which says this
pub record Front (rest : List ℕ) : Type 0 where
  pub line : List ℕ
  pub behind : List ℕ
  pub read : Read
  pub parts : rest ≡ line ++ 10 ∷ behind
  pub free : HasNoLineFeed line
  pub says : reading line ≡ Ok read
