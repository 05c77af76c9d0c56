-- That a pen's list is what its chain told, and what comes of a command.
use Rattle.std.specs.Prelude.{◌≡◌, ◌⊎◌, ℕ, List, [], ◌∷◌, ◌++◌, Option, false}
use Rattle.std.specs.Borrow.{Bor}
use Rattle.reg_records.specs.declared.record.Record.{Record}
use Rattle.reg_leader.specs.declared.command.Command.{Command}
use Rattle.reg_leader.specs.declared.reply.Reply.{Reply}
use Rattle.reg_leader.specs.declared.reply.Reply.TheVariants as replies
use Rattle.reg_topic.specs.declared.published.Item.{Item}
use Rattle.reg_topic.specs.declared.published.Item.TheVariants as items
use Rattle.reg_topic.specs.declared.topic.Topic.{Topic}
use Rattle.reg_pen.specs.Pen.{CompactsOrNot, IsDeclined, IsNoMemory, IsStepAfter, PenState, Submits}
use Rattle.reg_join.specs.Joining.{AreTaken, JoinKeeps}
use Rattle.reg_chain.specs.declared.chain.ChainAnswer.{ChainAnswer}
use Rattle.reg_chain.specs.declared.chain.ChainAnswer.TheVariants as answered
use Rattle.reg_join.specs.declared.join_keep.JoinKeep.{JoinKeep}
use Rattle.reg_join.specs.declared.join_keep.Stand.TheVariants.{Level, Due, Stopped}

-- the batches among the items, in their order
abbrev pub batches_in : List Item → List (List Record)
batches_in [] = []
batches_in (items.Commit commit ∷ is) = commit.batch ∷ batches_in is
batches_in (items.Compaction c ∷ is) = batches_in is

-- the batches of a pen, with the one that is pending
abbrev pub batches_of : {K : Type 0} → PenState K → List (List Record)
batches_of l = batches_in (l.published ++ l.pending)

-- a batch that is due is taken, or nothing is, or nothing is any more; the chain isn't asked
abbrev pub TakesDue : {C : Type 0} → PenState (JoinKeep C) → List Record → PenState (JoinKeep C) → Type 0
TakesDue l due m =
    ((m.keep ≡ record l.keep { stand = Level }) × (batches_of m ≡ batches_of l ++ due ∷ []))
    ⊎ ((m.keep ≡ l.keep) × (batches_of m ≡ batches_of l))
    ⊎ ((m.keep ≡ record l.keep { stand = Stopped }) × (batches_of m ≡ batches_of l))

module _ {C : Type 0} (told : C → List (List Record)) where
  -- the pen's batches are those that its keep took, and none is lost
  pub record IsJoined (l : PenState (JoinKeep C)) : Type 0 where
    pub kept : l.lost ≡ false
    pub taken : AreTaken told l.keep (batches_of l)

  module _ (answers : C → List Record → ChainAnswer → C → Type 0) where
    -- a submit leaves a pen whose batches are those that its keep took
    abbrev pub SubmitsStayJoined : Type 0
    SubmitsStayJoined = (base : Topic) (since : Option (Bor (List Item))) (l : PenState (JoinKeep C)) (c : Command) (reply : Reply)
        (m : PenState (JoinKeep C)) → Submits (JoinKeeps told answers) base since l c reply m → IsJoined l → IsJoined m

    -- the command's step from exactly what was told wrote nothing
    pub record WroteNothing (base : Topic) (l : PenState (JoinKeep C)) (c : Command) (reply : Reply) : Type 0 where
      pub before : told l.keep.chain ≡ batches_of l
      pub step : IsStepAfter base (l.published ++ l.pending) c reply []

    -- the command's step from exactly what was told wrote a batch, which stands in the chain right behind that: the chain kept it
    pub record StandsInChain (base : Topic) (l : PenState (JoinKeep C)) (c : Command) (reply : Reply) (m : PenState (JoinKeep C)) : Type 0 where
      pub first : Record
      pub rest : List Record
      pub before : told l.keep.chain ≡ batches_of l
      pub step : IsStepAfter base (l.published ++ l.pending) c reply (first ∷ rest)
      pub kept : answers l.keep.chain (first ∷ rest) answered.Kept m.keep.chain
      pub stands : told m.keep.chain ≡ batches_of l ++ (first ∷ rest) ∷ []

    -- why a caller got no outcome: memory was refused, a batch isn't settled, its own or one before it, or the keep declined its batch
    abbrev pub IsNoOutcome : Topic → PenState (JoinKeep C) → Command → Reply → Type 0
    IsNoOutcome base m c reply =
        IsNoMemory reply ⊎ ((offset : ℕ) × (reply ≡ replies.Unsettled offset)) ⊎ IsDeclined (JoinKeeps told answers) base m.published c reply

    -- where all that was told is taken, what a command's caller is told is a step from exactly that, whose batch stands in the chain right
    -- behind it, or there is no outcome
    abbrev pub OutcomesStandInChain : Type 0
    OutcomesStandInChain = (base : Topic) (since : Option (Bor (List Item))) (l : PenState (JoinKeep C)) (c : Command) (reply : Reply)
        (m : PenState (JoinKeep C)) → Submits (JoinKeeps told answers) base since l c reply m → IsJoined l → l.keep.stand ≡ Level
        → WroteNothing base l c reply ⊎ StandsInChain base l c reply m ⊎ IsNoOutcome base m c reply

    -- where a batch is due, a submit adds exactly that one, or none; one that comes to another batch stops the keep
    abbrev pub DueBatchesAreTaken : Type 0
    DueBatchesAreTaken = (base : Topic) (since : Option (Bor (List Item))) (l : PenState (JoinKeep C)) (c : Command) (reply : Reply)
        (m : PenState (JoinKeep C)) (due : List Record) → Submits (JoinKeeps told answers) base since l c reply m
        → l.keep.stand ≡ Due due → TakesDue l due m

  -- and so does a compaction
  abbrev pub CompactionsStayJoined : Type 0
  CompactionsStayJoined = (base : Topic) (floor : ℕ) (l m : PenState (JoinKeep C)) → CompactsOrNot base floor l m → IsJoined l → IsJoined m
