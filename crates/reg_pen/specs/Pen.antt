-- What a pen holds, and what a submit does.
use Rattle.std.specs.Prelude.{◌≡◌, ⊤, ◌⊎◌, ℕ, suc, ◌+◌, ◌-◌, ◌^◌, ◌<◌, ◌≤◌, min, Bool, true}
use Rattle.std.specs.Prelude.{false, List, [], ◌∷◌, ◌++◌, length, Option, Some, None}
use Rattle.std.specs.Borrow.{Bor}
use mathlib.Core.List.{IsPrefix}
use Rattle.reg_records.specs.declared.record.Record.{Record}
use Rattle.reg_refusals.specs.Refusal.{no_memory}
use Rattle.reg_leader.specs.Step.{IsStep}
use Rattle.reg_leader.specs.declared.command.Command.{Command}
use Rattle.reg_leader.specs.declared.reply.Reply.{Reply}
use Rattle.reg_leader.specs.declared.reply.Reply.TheVariants as replies
use Rattle.reg_floored.specs.Floors.{compacted_to, without}
use Rattle.reg_topic.specs.Topic.{IsAdopted, IsLawful, MayFollow, after_items, may_compact, registry_of}
use Rattle.reg_topic.specs.declared.published.Compaction.{Compaction}
use Rattle.reg_topic.specs.declared.published.Item.{Item}
use Rattle.reg_topic.specs.declared.published.Item.TheVariants as items
use Rattle.reg_topic.specs.declared.topic.Topic.{Topic}
use Rattle.reg_pen.specs.Keep.{refusal_of}
use Rattle.reg_pen.specs.declared.compact_error.CompactError.{CompactError}
use Rattle.reg_pen.specs.declared.compact_error.CompactError.TheVariants as refused
use Rattle.reg_pen.specs.declared.keep.Kept.{Kept}
use Rattle.reg_pen.specs.declared.keep.Kept.TheVariants.{Taken, Declined, Lost, Unknown}
use Rattle.reg_pen.specs.declared.keep.Lack.{Lack}

-- the published items and the pending ones, whether a pending batch is lost, and the keep
pub record PenState (K : Type 0) : Type 0 where
  pub published : List Item
  pub pending : List Item
  pub lost : Bool
  pub keep : K

-- one more, up to the greatest count
abbrev pub counted : ℕ → ℕ
counted n = min (n + 1) (2 ^ 64 - 1)

-- how many of the items are batches
abbrev pub batches : List Item → ℕ
batches [] = 0
batches (items.Commit commit ∷ is) = suc (batches is)
batches (items.Compaction c ∷ is) = batches is

-- nothing is pending, or one item that may follow
abbrev pub Pends : Topic → List Item → Type 0
Pends t [] = ⊤
Pends t (i ∷ []) = MayFollow t i
Pends t (i ∷ j ∷ is) = ⊥

-- what a pen keeps: the base is adopted, the list is lawful, and at most one item is pending, which may follow on it
pub record IsPen (base : Topic) (published pending : List Item) : Type 0 where
  pub adopted : IsAdopted base
  pub lawful : IsLawful base published
  pub pends : Pends (after_items base published) pending

-- the pending items are published
abbrev pub settled : {K : Type 0} → PenState K → PenState K
settled l = record { published = l.published ++ l.pending; pending = []; lost = l.lost; keep = l.keep }

-- what a command that wrote the batch adds to the list
abbrev pub item_of : Command → List Record → List Item
item_of c [] = []
item_of c (r ∷ rs) = items.Commit (record { command = c; batch = r ∷ rs }) ∷ []

-- reply and batch are a step from the log that the items come to
abbrev pub IsStepAfter : Topic → List Item → Command → Reply → List Record → Type 0
IsStepAfter base is c reply batch = IsStep (registry_of (after_items base is)) (after_items base is).next c reply batch

abbrev pub IsNoMemory : Reply → Type 0
IsNoMemory reply = reply ≡ replies.Refused no_memory

-- what follows on what became of a batch: the item, the step's reply, and the reply while the
-- batch is unsettled; a batch that is taken is published or left pending, one that is lost stays pending, and of one of which it can't be
-- known whether it stands nothing is pending
abbrev pub Follows : {K : Type 0} → Kept → List Item → Reply → Reply → PenState K → Reply → PenState K → Type 0
Follows Taken is replied unsettled l reply m =
    ((reply ≡ replied) × (m ≡ record { published = l.published ++ is; pending = []; lost = false; keep = l.keep }))
    ⊎ ((reply ≡ unsettled) × (m ≡ record { published = l.published; pending = is; lost = false; keep = l.keep }))
Follows (Declined lack) is replied unsettled l reply m = (reply ≡ replies.Refused (refusal_of lack)) × (m ≡ l)
Follows Lost is replied unsettled l reply m = (reply ≡ unsettled)
    × (m ≡ record { published = l.published; pending = is; lost = true; keep = l.keep })
Follows Unknown is replied unsettled l reply m = (reply ≡ unsettled) × (m ≡ l)

-- the reply where the pending item is refused again, or is lost: the offset of a batch
abbrev pub StillPends : List Item → Reply → Type 0
StillPends (items.Commit commit ∷ []) reply = (first : Record) × (rest : List Record) × (commit.batch ≡ first ∷ rest)
    × (reply ≡ replies.Unsettled first.offset)
StillPends (items.Compaction c ∷ []) reply = IsNoMemory reply
StillPends _ reply = ⊥

-- the front is longer than the published list
abbrev pub IsAhead : Option (Bor (List Item)) → List Item → Type 0
IsAhead None published = ⊥
IsAhead (Some since) published = length published < length since.now

-- the published list begins with the front
abbrev pub IsBehind : Option (Bor (List Item)) → List Item → Type 0
IsBehind None published = ⊤
IsBehind (Some since) published = IsPrefix since.now published

module _ {K : Type 0} (keeps : K → List Record → Kept → K → Type 0) where
  -- the batch of a step from the published log is lent to the keep, once
  pub record Lends (base : Topic) (l : PenState K) (c : Command) (reply : Reply) (m : PenState K) : Type 0 where
    pub replied : Reply
    pub first : Record
    pub rest : List Record
    pub step : IsStepAfter base l.published c replied (first ∷ rest)
    pub kept : Kept
    pub keep : K
    pub lent : keeps l.keep (first ∷ rest) kept keep
    pub follows : Follows kept (item_of c (first ∷ rest)) replied (replies.Unsettled first.offset) (record l { keep = keep }) reply m

  -- what becomes of a command once nothing is pending: a step that writes nothing, one whose batch is lent, or refused memory
  abbrev pub Acts : Topic → PenState K → Command → Reply → PenState K → Type 0
  Acts base l c reply m =
      (IsStepAfter base l.published c reply [] × (m ≡ l))
      ⊎ Lends base l c reply m
      ⊎ (IsNoMemory reply × (m ≡ l))

  -- what a submit does: nothing, for a front that is ahead, or where the pending item
  -- is refused again or lost; else that item is settled first
  abbrev pub Submits : Topic → Option (Bor (List Item)) → PenState K → Command → Reply → PenState K → Type 0
  Submits base since l c reply m =
      (IsAhead since l.published × IsNoMemory reply × (m ≡ l))
      ⊎ (IsBehind since l.published × (StillPends l.pending reply × (m ≡ l) ⊎ (l.lost ≡ false) × Acts base (settled l) c reply m))

  -- the reply is that of a batch of a step from the log of the list, which the keep declined
  pub record IsDeclined (base : Topic) (front : List Item) (c : Command) (reply : Reply) : Type 0 where
    pub replied : Reply
    pub first : Record
    pub rest : List Record
    pub step : IsStepAfter base front c replied (first ∷ rest)
    pub lack : Lack
    pub keep : K
    pub keep' : K
    pub lent : keeps keep (first ∷ rest) (Declined lack) keep'
    pub told : reply ≡ replies.Refused (refusal_of lack)

-- the topic with what is pending
abbrev pub with_pending : {K : Type 0} → Topic → PenState K → Topic
with_pending base l = after_items base (l.published ++ l.pending)

-- the compaction may be, and leaves what compacting to its floor does
pub record CompactsTo (t : Topic) (c : Compaction) : Type 0 where
  pub may_be : may_compact t c ≡ true
  pub rest : without t.kept.records c.dropped ≡ compacted_to c.floor t.kept.records

-- what is pending is published, where no batch is lost, and then a compaction to that floor
abbrev pub Compacts : {K : Type 0} → Topic → ℕ → PenState K → PenState K → Type 0
Compacts base floor l m =
    (dropped : List Record) × (l.lost ≡ false) × CompactsTo (with_pending base l) (record { floor = floor; dropped = dropped })
    × (m ≡ record (settled l) { published = (settled l).published ++ items.Compaction (record { floor = floor; dropped = dropped }) ∷ [] })

-- nothing is done; or, where no batch is lost, what is pending is published, and the compaction may be pending then
abbrev pub LeavesCompaction : {K : Type 0} → Topic → ℕ → PenState K → PenState K → Type 0
LeavesCompaction base floor l m =
    (m ≡ l)
    ⊎ ((l.lost ≡ false) × (m ≡ settled l))
    ⊎ ((dropped : List Record) × (l.lost ≡ false) × CompactsTo (with_pending base l) (record { floor = floor; dropped = dropped })
    × (m ≡ record (settled l) { pending = items.Compaction (record { floor = floor; dropped = dropped }) ∷ [] }))

-- the floor may be set where what is pending is published: it doesn't fall, and isn't ahead of the next offset
abbrev pub MaySetFloor : Topic → ℕ → Type 0
MaySetFloor t floor = (t.kept.floor ≤ floor) × (floor ≤ t.next)

-- why a compaction to a floor that may be set isn't published: memory was refused, or the keep lost a batch
abbrev pub IsUnsettled : {K : Type 0} → Topic → ℕ → PenState K → CompactError → PenState K → Type 0
IsUnsettled base floor l (refused.FloorBelow kept) m = ⊥
IsUnsettled base floor l (refused.FloorAhead next) m = ⊥
IsUnsettled base floor l refused.OutOfMemory m = (l.lost ≡ false) × LeavesCompaction base floor l m
IsUnsettled base floor l refused.Lost m = (l.lost ≡ true) × (m ≡ l)

-- why a compaction to a floor isn't published
abbrev pub IsCompactRefusal : {K : Type 0} → Topic → ℕ → PenState K → CompactError → PenState K → Type 0
IsCompactRefusal base floor l (refused.FloorBelow kept) m = (kept ≡ (with_pending base l).kept.floor) × (floor < kept) × (m ≡ l)
IsCompactRefusal base floor l (refused.FloorAhead next) m =
    (next ≡ (with_pending base l).next) × ((with_pending base l).kept.floor ≤ floor) × (next < floor) × (m ≡ l)
IsCompactRefusal base floor l refused.OutOfMemory m = MaySetFloor (with_pending base l) floor × IsUnsettled base floor l refused.OutOfMemory m
IsCompactRefusal base floor l refused.Lost m = MaySetFloor (with_pending base l) floor × IsUnsettled base floor l refused.Lost m

-- a compaction to a floor is done or refused
abbrev pub CompactsOrNot : {K : Type 0} → Topic → ℕ → PenState K → PenState K → Type 0
CompactsOrNot base floor l m = Compacts base floor l m ⊎ ((error : CompactError) × IsCompactRefusal base floor l error m)
