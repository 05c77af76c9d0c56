-- A whole log: a line behind its empty line says where it ends, so that nothing of it is missing.
use Rattle.std.specs.Prelude.{◌≡◌, ℕ, List, [], ◌∷◌, ◌++◌, Bool, true, codes, decimal, length, nat_eq, Ok}
use Rattle.std.specs.List.{starts_with}
use Rattle.reg_records.specs.Log.{LogText, log_of, next_of}

-- `end RECORDS NEXT` and its LF, for so many lines of records and that next offset
abbrev pub end_line : ℕ → ℕ → List ℕ
end_line records next = codes "end " ++ decimal records ++ 32 ∷ decimal next ++ 10 ∷ []

-- that of a log
abbrev pub end_of : LogText → List ℕ
end_of log = end_line (length log.reads) (next_of log.floor log.reads)

-- the text of a log, an empty line, and the line that says where the log ends
abbrev pub whole_text : List ℕ → LogText → List ℕ
whole_text text log = text ++ 10 ∷ end_of log

-- what stands behind a log begins as such a line
abbrev pub is_end : List ℕ → Bool
is_end behind = starts_with nat_eq behind (codes "end ")

-- where such a line stands behind the log of a text, it is the log's own, and nothing follows it
abbrev pub IsNotCut : List ℕ → Type 0
IsNotCut text = (log : LogText) → log_of text ≡ Ok log → is_end log.rest ≡ true → log.rest ≡ end_of log

-- one stands there that isn't
pub record IsCut (text : List ℕ) : Type 0 where
  pub log : LogText
  pub read : log_of text ≡ Ok log
  pub ends : is_end log.rest ≡ true
  pub other : ¬ (log.rest ≡ end_of log)
