-- What contracts see of a journal.
use Rattle.std.specs.Prelude.{ℕ, Bool}

-- its disk, where the file's empty line stands, how many lines stand before it, and whether it takes no batch any more
pub record JournalState (D : Type 0) : Type 0 where
  pub disk : D
  pub «end» : ℕ
  pub lines : ℕ
  pub is_broken : Bool
