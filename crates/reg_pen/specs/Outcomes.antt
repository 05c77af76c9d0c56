-- What a submit comes to over a keep that takes every batch.
use Rattle.std.specs.Prelude.{◌≡◌, ◌⊎◌, ◌↔◌, List, ◌∷◌, ◌++◌, false, Option}
use Rattle.std.specs.Borrow.{Bor}
use Rattle.reg_records.specs.declared.record.Record.{Record}
use Rattle.reg_leader.specs.declared.command.Command.{Command}
use Rattle.reg_leader.specs.declared.reply.Reply.{Reply}
use Rattle.reg_leader.specs.declared.reply.Reply.TheVariants as replies
use Rattle.reg_topic.specs.declared.published.Item.{Item}
use Rattle.reg_topic.specs.declared.topic.Topic.{Topic}
use Rattle.reg_pen.specs.Keep.{TakesAll}
use Rattle.reg_pen.specs.Pen.{IsAhead, IsBehind, IsNoMemory, IsStepAfter, PenState, StillPends, Submits, item_of, settled}

module _ {K : Type 0} where
  -- the command's step is told, and what it wrote is published
  abbrev pub Publishes : Topic → PenState K → Command → Reply → PenState K → Type 0
  Publishes base l c reply m = (batch : List Record) × IsStepAfter base l.published c reply batch
      × (m ≡ record l { published = l.published ++ item_of c batch })

  -- the command's step wrote a batch, which is pending then
  abbrev pub LeavesBatch : Topic → PenState K → Command → Reply → PenState K → Type 0
  LeavesBatch base l c reply m = (replied : Reply) × (first : Record) × (rest : List Record)
      × IsStepAfter base l.published c replied (first ∷ rest) × (reply ≡ replies.Unsettled first.offset)
      × (m ≡ record l { pending = item_of c (first ∷ rest) })

  -- what a submit comes to: memory is refused, what is pending stays so, or it is published, and then the command is done, left
  -- pending or refused memory
  abbrev pub PublishesOrWaits : Topic → Option (Bor (List Item)) → PenState K → Command → Reply → PenState K → Type 0
  PublishesOrWaits base since l c reply m =
      (IsAhead since l.published × IsNoMemory reply × (m ≡ l))
      ⊎ (IsBehind since l.published × (StillPends l.pending reply × (m ≡ l)
      ⊎ (l.lost ≡ false) × (Publishes base (settled l) c reply m ⊎ LeavesBatch base (settled l) c reply m
      ⊎ IsNoMemory reply × (m ≡ settled l))))

abbrev pub SubmitsPublishOrWait : Type 0 → Type 0
SubmitsPublishOrWait K = (base : Topic) (since : Option (Bor (List Item))) (l : PenState K) (c : Command) (reply : Reply) (m : PenState K)
    → Submits (TakesAll {K = K}) base since l c reply m ↔ PublishesOrWaits base since l c reply m
