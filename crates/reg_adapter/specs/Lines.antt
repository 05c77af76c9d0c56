-- Lines as they come.
use Rattle.std.specs.Prelude.{◌≡◌, ℕ, List, [], ◌∷◌, ◌++◌}
use Rattle.reg_records.specs.Pieces.{HasNoLineFeed}

-- the bytes that no line was taken of, and how many lines were taken
pub record Unread : Type 0 where
  pub bytes : List ℕ
  pub count : ℕ

-- the first line of the bytes, with its LF
pub record IsFrontLine (bytes line : List ℕ) : Type 0 where
  pub text : List ℕ
  pub rest : List ℕ
  pub is : line ≡ text ++ 10 ∷ []
  pub parts : bytes ≡ text ++ 10 ∷ rest
  pub free : HasNoLineFeed text
