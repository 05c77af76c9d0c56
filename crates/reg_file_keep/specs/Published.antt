-- That a file says what a pen has published, and goes on saying it.
use Rattle.std.specs.Prelude.{◌≡◌, ℕ, true, false, List, [], ◌∷◌, ◌++◌, Result}
use Rattle.reg_journal.specs.Disk.{Only}
use Rattle.reg_journal.specs.Lines.{Said, said, with_batch}
use Rattle.reg_compaction.specs.Said.{SaysCompaction}
use Rattle.reg_pen.specs.Pen.{PenState}
use Rattle.reg_records.specs.declared.log.LogFault.{LogFault}
use Rattle.reg_records.specs.declared.record.Record.{Record}
use Rattle.reg_topic.specs.declared.published.Item.{Item}
use Rattle.reg_topic.specs.declared.published.Item.TheVariants as items
use Rattle.reg_file_keep.specs.KeepState.{KeepState}
use Rattle.reg_file_keep.specs.Keeping.{SaysCompactionOrMore}

-- the records of the batches among the items, in their order
abbrev pub batched : List Item → List Record
batched [] = []
batched (items.Commit commit ∷ is) = commit.batch ++ batched is
batched (items.Compaction c ∷ is) = batched is

-- unless a batch is lost, the file says a compaction of what it said at first with the batches that are published or pending,
-- and each crash leaves that file; where one is lost, each crash leaves a file that says a compaction of the published ones,
-- without the lost one or with all of it
pub record SaysPublished {D : Type 0} (seen : D → List ℕ) (may_leave : D → List ℕ → Type 0) (first : Result Said (ℕ × LogFault))
    (l : PenState (KeepState D)) : Type 0 where
  pub sound : l.lost ≡ false → l.keep.journal.is_broken ≡ false
  pub file : l.lost ≡ false
      → SaysCompaction (with_batch (batched (l.published ++ l.pending)) first) (said (seen l.keep.journal.disk))
  pub durable : l.lost ≡ false → Only (seen l.keep.journal.disk) (may_leave l.keep.journal.disk)
  pub lost : l.lost ≡ true → (c : List ℕ) → may_leave l.keep.journal.disk c
      → SaysCompactionOrMore (with_batch (batched l.published) first) (batched l.pending) c
