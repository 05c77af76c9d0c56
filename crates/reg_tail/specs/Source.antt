-- What stands of a file that another process writes.
use Rattle.std.specs.Prelude.{◌≡◌, ⊤, ◌<◌, ℕ, List, [], ◌∷◌, ◌++◌, length}
use Rattle.reg_journal.specs.Disk.{Keeps}
use Rattle.reg_journal.specs.Lines.{text_of}
use Rattle.reg_records.specs.Pieces.{HasNoLineFeed}

-- each has some bytes and no LF
abbrev pub AreLines : List (List ℕ) → Type 0
AreLines [] = ⊤
AreLines (line ∷ lines) = (0 < length line) × HasNoLineFeed line × AreLines lines

-- the lines before the old file's empty line stand at the front of the new one
abbrev pub Stand : List ℕ → List ℕ → Type 0
Stand old new = (lines : List (List ℕ)) (rest : List ℕ)
    → AreLines lines
    → old ≡ text_of lines ++ 10 ∷ rest
    → Keeps (length (text_of lines)) old new
