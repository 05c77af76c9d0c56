-- The definitions on a small chain: two batches and a compaction between them, by a process whose base stands for the first batch.
use Rattle.std.proofs.Common.{◌≡◌, [], ◌∷◌, refl}
use Rattle.reg_alike.specs.reg_records.declared.record.Record.{Record}
use Rattle.reg_topic.specs.declared.published.Commit.{Commit}
use Rattle.reg_topic.specs.declared.published.Compaction.{Compaction}
use Rattle.reg_topic.specs.declared.published.Item.TheVariants as items
use Rattle.reg_topic.specs.declared.topic.Topic.{Topic}
use Rattle.reg_processes.specs.Process.{Process, taken_by, when}

module _ (first : Record) (one other : Commit) (c : Compaction) (base : Topic) where
  abbrev follower : Process
  follower =
      record { early = (first ∷ []) ∷ []; base = base; items = items.Commit one ∷ items.Compaction c ∷ items.Commit other ∷ [] }

  took : taken_by follower ≡ (first ∷ []) ∷ one.batch ∷ other.batch ∷ []
  took = refl

  took_before : taken_by (when follower (items.Commit one ∷ items.Compaction c ∷ [])) ≡ (first ∷ []) ∷ one.batch ∷ []
  took_before = refl
