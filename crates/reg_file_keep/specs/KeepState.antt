-- What contracts see of a keep over a file.
use Rattle.std.specs.Prelude.{ℕ, Option}
use Rattle.reg_journal.specs.JournalState.{JournalState}
use Rattle.reg_compaction.specs.declared.in_place.JournalCompactError.{JournalCompactError}

-- the journal; to which floor its file is compacted next: the next offset that it had at the compaction before, and at first its
-- own floor; its next offset; how many batches pass before a compaction is tried; why the last one failed, if it did
pub record KeepState (D : Type 0) : Type 0 where
  pub journal : JournalState D
  pub floor : ℕ
  pub next : ℕ
  pub patience : ℕ
  pub fault : Option JournalCompactError
