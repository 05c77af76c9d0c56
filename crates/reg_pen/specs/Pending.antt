-- Private: what a pen remembers of its pending item.
use Rattle.std.specs.Prelude.{◌≡◌, ◌≤◌, ℕ, suc, ◌+◌, Bool, true, false, List, [], ◌∷◌, length, Option, Some, None}
use Rattle.reg_records.specs.declared.limits.TheConstants.{OFFSET_LIMIT}
use Rattle.reg_records.specs.declared.record.Record.{Record}
use Rattle.reg_refusals.specs.Refusal.{no_memory}
use Rattle.reg_leader.specs.declared.reply.Reply.{Reply}
use Rattle.reg_leader.specs.declared.reply.Reply.TheVariants as replies
use Rattle.reg_topic.specs.declared.published.Item.{Item}
use Rattle.reg_topic.specs.declared.published.Item.TheVariants as items
use Rattle.reg_topic.specs.declared.topic.Topic.{Topic}
use Rattle.reg_pen.specs.Pen.{PenState}
use Rattle.reg_pen.specs.declared.pen.Pending.{Pending}
use Rattle.reg_pen.specs.declared.pen.Pending.TheVariants.{Nothing, Batch, Lost, Compaction}

-- nothing is pending
abbrev pub IsClear : {K : Type 0} → PenState K → Type 0
IsClear l = (l.pending ≡ []) × (l.lost ≡ false)

-- the batch begins at that offset, or is empty
abbrev pub IsFirst : List Record → Option ℕ → Type 0
IsFirst batch None = batch ≡ []
IsFirst batch (Some n) = (first : Record) × (rest : List Record) × (batch ≡ first ∷ rest) × (n ≡ first.offset)

abbrev pub IsPending : Pending → List Item → Type 0
IsPending Nothing is = is ≡ []
IsPending (Batch n) (items.Commit commit ∷ []) = IsFirst commit.batch (Some n)
IsPending (Lost n) (items.Commit commit ∷ []) = IsFirst commit.batch (Some n)
IsPending Compaction (items.Compaction c ∷ []) = Unit {0}
IsPending _ _ = ⊥

-- the batch is lost
abbrev pub is_lost : Pending → Bool
is_lost Nothing = false
is_lost (Batch n) = false
is_lost (Lost n) = true
is_lost Compaction = false

-- the reply where it is refused again, or is lost
abbrev pub reply_of : Pending → Reply
reply_of Nothing = replies.Refused no_memory
reply_of (Batch n) = replies.Unsettled n
reply_of (Lost n) = replies.Unsettled n
reply_of Compaction = replies.Refused no_memory

-- how many batches there are in it
abbrev pub batches_in : Pending → ℕ
batches_in Nothing = 0
batches_in (Batch n) = 1
batches_in (Lost n) = 1
batches_in Compaction = 0

-- the floor and the next offset of a topic
abbrev pub AreOf : Topic → ℕ → ℕ → Type 0
AreOf t floor next = (floor ≡ t.kept.floor) × (next ≡ t.next)

-- the floor and the next offset after an item that may follow
abbrev pub after : Item → ℕ → ℕ → ℕ × ℕ
after (items.Commit commit) floor next = (floor, next + length commit.batch)
after (items.Compaction c) floor next = (c.floor, next)

-- a batch ends by the limit of offsets
abbrev pub EndsByLimit : Item → ℕ → Type 0
EndsByLimit (items.Commit commit) next = next + length commit.batch ≤ suc OFFSET_LIMIT
EndsByLimit (items.Compaction c) next = Unit {0}
