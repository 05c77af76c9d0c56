-- What a node's desk does, from what was known before to what is known after.
use Rattle.std.specs.Prelude.{◌≡◌, ◌⊎◌, ℕ, true, Bool, List, [], ◌∷◌, ◌++◌, Option, Some, None, IfOk, MatchBool, Result, option_map}
use Rattle.std.specs.Borrow.{Bor}
use Rattle.std.specs.List.{AllByRecursion}
use Rattle.std.specs.declared.alloc.AllocError.{AllocError}
use mathlib.Core.List.{IsPrefix}
use Rattle.reg_records.specs.declared.record.Record.{Record}
use Rattle.reg_floored.specs.Compaction.{IsCompactionOf}
use Rattle.reg_set.specs.LastRecords.{last_records}
use Rattle.reg_lookup.specs.Answers.{IsAnswer}
use Rattle.reg_lookup.specs.declared.answered.Answer.{Answer}
use Rattle.reg_lookup.specs.declared.query.Query.{Query}
use Rattle.reg_leader.specs.declared.command.Command.{Command}
use Rattle.reg_leader.specs.declared.reply.Reply.{Reply}
use Rattle.reg_leader.specs.declared.reply.Reply.TheVariants as replies
use Rattle.reg_topic.specs.declared.published.Item.{Item}
use Rattle.reg_topic.specs.Topic.{whole_log}
use Rattle.reg_topic.specs.declared.topic.Topic.{Topic}
use Rattle.reg_shared.specs.Held.{Held, base_of, topic_at}
use Rattle.reg_pen.specs.Pen.{IsDeclined, IsNoMemory, IsPen, IsStepAfter, PenState, counted, item_of}
use Rattle.reg_pen.specs.Writing.{SubmitsAndCompacts}
use Rattle.reg_pen.specs.declared.keep.Kept.{Kept}
use Rattle.reg_node.specs.Takes.{taken, taken_set}
use Rattle.reg_node.specs.declared.take.Draw.{Draw}

-- the topic's front of the last command, the front of the node's list that the view saw, the submits, whether nothing was refused after
-- the last one, and what wakes the other nodes
pub record Known (W : Type 0) : Type 0 where
  pub seen : Option (List Item)
  pub view : List Draw
  pub submits : ℕ
  pub fresh : Bool
  pub wake : W

-- the front of the last command, or none
abbrev pub front_of : Option (List Item) → List Item
front_of None = []
front_of (Some front) = front

-- the command is the last item, after all that was seen before it: reply and batch are a step from the log before it
pub record EndsIn (base : Topic) (before : List Item) (c : Command) (reply : Reply) (after : List Item) : Type 0 where
  pub front : List Item
  pub first : Record
  pub rest : List Record
  pub later : IsPrefix before front
  pub step : IsStepAfter base front c reply (first ∷ rest)
  pub ends : after ≡ front ++ item_of c (first ∷ rest)

-- what the view was told of comes to a compaction of the log of a list that begins with the front
pub record IsFresh (first : Held) (seen : List Item) (view : List Draw) : Type 0 where
  pub told : List Draw
  pub front : List Item
  pub shown : IsPrefix told view
  pub later : IsPrefix seen front
  pub whole : IsCompactionOf (taken_set told) (whole_log (topic_at first front))

-- what answers stand on: a front of the topic's list, where there was a command, one of the node's list, and whether this shows that
pub record Fronts : Type 0 where
  pub topic : Option (List Item)
  pub node : List Draw
  pub fresh : Bool

-- a desk's answers stand on what it has seen
abbrev pub StandsOn : {W : Type 0} → Known W → Fronts → Type 0
StandsOn desk fronts = fronts ≡ record { topic = desk.seen; node = desk.view; fresh = desk.fresh }

-- a desk learns of fronts: its own are then the longer ones, it is fresh as the one was that it has of the topic's list, and nothing else changes
pub record LearnsFronts {W : Type 0} (first : Held) (before : Known W) (fronts : Fronts) (after : Known W) : Type 0 where
  pub one : ((after.seen ≡ before.seen) × (after.fresh ≡ before.fresh)) ⊎ ((after.seen ≡ fronts.topic) × (after.fresh ≡ fronts.fresh))
  pub topic_this : IsPrefix (front_of before.seen) (front_of after.seen)
  pub topic_that : IsPrefix (front_of fronts.topic) (front_of after.seen)
  pub node_this : IsPrefix before.view after.view
  pub node_that : IsPrefix fronts.node after.view
  pub same_submits : after.submits ≡ before.submits
  pub same_wake : after.wake ≡ before.wake
  pub shown : after.fresh ≡ true → IsFresh first (front_of after.seen) after.view

-- a query changes the view's front alone
pub record DeskAsks {W : Type 0} (before : Known W) (q : Query) (a : Result Answer AllocError) (after : Known W) : Type 0 where
  pub answered : IfOk a (IsAnswer (last_records (taken after.view)) q)
  pub shows : IsPrefix before.view after.view
  pub same_seen : after.seen ≡ before.seen
  pub same_submits : after.submits ≡ before.submits
  pub same_fresh : after.fresh ≡ before.fresh
  pub same_wake : after.wake ≡ before.wake

-- a call of a desk, with what it gave
pub data Call : Type 0 where
  Ask : (query : Query) (answer : Result Answer AllocError) → Call
  Order : (command : Command) (reply : Reply) → Call

-- a turn of a connection: a desk learns of what the answer before stood on, and then does what it is called for
pub record Turn (W : Type 0) : Type 0 where
  pub before : Known W
  pub learnt : Known W
  pub call : Call
  pub after : Known W

module _ {K : Type 0} (keeps : K → List Record → Kept → K → Type 0) where
  -- what the reply says: a step that wrote nothing, one that wrote the last item, a batch
  -- that isn't settled, one that was declined, or refused memory
  abbrev pub Replies : Topic → List Item → Command → Reply → List Item → Type 0
  Replies base before c reply after =
      IsStepAfter base after c reply []
      ⊎ EndsIn base before c reply after
      ⊎ ((offset : ℕ) × (reply ≡ replies.Unsettled offset))
      ⊎ IsDeclined keeps base after c reply
      ⊎ IsNoMemory reply

  -- the front after a command, with its reply
  pub record IsNext (base : Topic) (before : List Item) (c : Command) (reply : Reply) (after : List Item) : Type 0 where
    pub grows : IsPrefix before after
    pub replies : Replies base before c reply after

  -- the command was submitted to a pen, once, whatever the reply is, by whoever had the front before, and a compaction followed or not
  pub record IsSubmitted (base : Topic) (before : Option (List Item)) (c : Command) (reply : Reply) (told : List Item) : Type 0 where
    pub old : PenState K
    pub was : IsPen base old.published old.pending
    pub since : Option (Bor (List Item))
    pub with_front : option_map (λ s. s.now) since ≡ before
    pub new : PenState K
    pub done : SubmitsAndCompacts keeps base since old c reply told new

  -- and the front after it is the list that was told, if that begins with the front before
  pub record IsWritten (base : Topic) (before : Option (List Item)) (c : Command) (reply : Reply) (front : List Item) : Type 0 where
    pub told : List Item
    pub submitted : IsSubmitted base before c reply told
    pub is_told : IsPrefix (front_of before) told → front ≡ told

  module _ {W : Type 0} (wakes : W → List Item → W → Type 0) where
    -- a command is submitted once, then the other nodes are woken with the front that it gave, and then the view shows it; or that was
    -- refused, and the view shows nothing more
    pub record DeskCommands (first : Held) (before : Known W) (c : Command) (reply : Reply) (after : Known W) : Type 0 where
      pub counts : after.submits ≡ counted before.submits
      pub front : List Item
      pub seen : after.seen ≡ Some front
      pub written : IsWritten (base_of first) before.seen c reply front
      pub next : IsNext (base_of first) (front_of before.seen) c reply front
      pub woken : wakes before.wake front after.wake
      pub judged : List Draw
      pub judges : IsPrefix before.view judged
      pub shows : MatchBool after.fresh (IsPrefix judged after.view × IsFresh first front after.view) (after.view ≡ judged)

    -- what a call of a desk does
    abbrev pub Does : Held → Known W → Call → Known W → Type 0
    Does first before (Ask query answer) after = DeskAsks before query answer after
    Does first before (Order command reply) after = DeskCommands first before command reply after

    -- turns of one connection, at whichever desks of a node: each desk learns of what the answer before it stood on
    abbrev pub AreTurns : Held → Fronts → List (Turn W) → Type 0
    AreTurns first fronts [] = Unit {0}
    AreTurns first fronts (t ∷ ts) = LearnsFronts first t.before fronts t.learnt × Does first t.learnt t.call t.after
        × ((next : Fronts) × StandsOn t.after next × AreTurns first next ts)

    -- what a desk's view shows it shows still once the desk has answered a query, or done a command
    abbrev pub CallsKeepFresh : Held → Type 0
    CallsKeepFresh first = (seen : List Item) (before : Known W) (call : Call) (after : Known W)
        → IsFresh first seen before.view → Does first before call after → IsFresh first seen after.view

    -- and once it has learnt of fronts; then it shows what was shown there, too
    abbrev pub LearningKeepsFresh : Held → Type 0
    LearningKeepsFresh first = (seen : List Item) (before : Known W) (fronts : Fronts) (after : Known W)
        → IsFresh first seen before.view ⊎ IsFresh first seen fronts.node → LearnsFronts first before fronts after
        → IsFresh first seen after.view

    -- a command is done at one desk, which is fresh then: at each later turn of the connection, however many there are, what the node took
    -- by then is a compaction of the log of a list that begins with the command's front
    abbrev pub ReadTheirWrites : Held → Type 0
    ReadTheirWrites first = (before : Known W) (c : Command) (reply : Reply) (done : Known W) (fronts : Fronts) (turns : List (Turn W))
        → DeskCommands first before c reply done → done.fresh ≡ true → StandsOn done fronts → AreTurns first fronts turns
        → AllByRecursion (λ t. IsFresh first (front_of done.seen) t.after.view) turns
