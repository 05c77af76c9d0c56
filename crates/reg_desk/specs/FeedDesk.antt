-- What a desk over a feed does, from the front that was seen before to the one that is seen after.
use Rattle.std.specs.Prelude.{◌≡◌, ◌⊎◌, ℕ, List, [], ◌∷◌, Some, IfOk, Result}
use Rattle.std.specs.List.{AllByRecursion}
use Rattle.std.specs.declared.alloc.AllocError.{AllocError}
use mathlib.Core.List.{IsPrefix}
use Rattle.reg_records.specs.declared.record.Record.{Record}
use Rattle.reg_set.specs.LastRecords.{last_records}
use Rattle.reg_set.specs.Records.{Records}
use Rattle.reg_feed.specs.Published.{WasPublished}
use Rattle.reg_refusals.specs.declared.refusal.Refusal.TheVariants as refusals
use Rattle.reg_lookup.specs.Answers.{IsAnswer}
use Rattle.reg_lookup.specs.declared.answered.Answer.{Answer}
use Rattle.reg_lookup.specs.declared.query.Query.{Query}
use Rattle.reg_leader.specs.declared.command.Command.{Command}
use Rattle.reg_leader.specs.declared.reply.Reply.{Reply}
use Rattle.reg_leader.specs.declared.reply.Reply.TheVariants as replies
use Rattle.reg_topic.specs.declared.published.Item.{Item}
use Rattle.reg_topic.specs.declared.topic.Topic.{Topic}
use Rattle.reg_pen.specs.Pen.{counted}
use Rattle.reg_pen.specs.declared.keep.Kept.{Kept}
use Rattle.reg_desk.specs.Desk.{Ask, Call, IsNext, IsWritten, Order}

-- the front of the list that a desk saw or was told of, and who carries out its commands
pub record Stands (T C : Type 0) : Type 0 where
  pub front : List T
  pub commander : C

-- a desk's answers stand on the front that it has seen
abbrev pub StandsOnFront : {T C : Type 0} → Stands T C → List T → Type 0
StandsOnFront desk front = front ≡ desk.front

-- a desk learns of a front: its own is then the longer of the two, and nothing else changes
pub record LearnsFront {T C : Type 0} (before : Stands T C) (front : List T) (after : Stands T C) : Type 0 where
  pub one : (after.front ≡ before.front) ⊎ (after.front ≡ front)
  pub this : IsPrefix before.front after.front
  pub that : IsPrefix front after.front
  pub same_commander : after.commander ≡ before.commander

-- a query is answered over what some published list comes to that begins with all that was seen, and that list is then what was seen
pub record AsksFeed {T C : Type 0} (comes_to answers_for : List T → Records) (publishes : List T → Type 0) (before : Stands T C) (q : Query)
    (a : Result Answer AllocError) (after : Stands T C) : Type 0 where
  pub answered : IfOk a (IsAnswer (last_records (comes_to after.front)) q)
  pub for_all : IfOk a (IsAnswer (answers_for after.front) q)
  pub published : WasPublished publishes after.front
  pub longer : IsPrefix before.front after.front
  pub same_commander : after.commander ≡ before.commander

-- a command is carried out by whoever has seen all that the desk had; the list that is then seen begins with that
pub record CommandsFeed {T C : Type 0} (carries : C → List T → Command → Reply → List T → C → Type 0) (before : Stands T C) (c : Command)
    (reply : Reply) (after : Stands T C) : Type 0 where
  pub carried : carries before.commander before.front c reply after.front after.commander
  pub longer : IsPrefix before.front after.front

-- each command is refused, and nothing changes
abbrev pub RefusesAll : {T C : Type 0} → C → List T → Command → Reply → List T → C → Type 0
RefusesAll before since c reply front after = (reply ≡ replies.Refused refusals.FollowsLog) × (front ≡ since) × (after ≡ before)

-- a turn of a connection: a desk learns of what the answer before stood on, and then does what it is called for
pub record FeedTurn (T C : Type 0) : Type 0 where
  pub before : Stands T C
  pub learnt : Stands T C
  pub call : Call
  pub after : Stands T C

module _ {T C : Type 0} (comes_to answers_for : List T → Records) (publishes : List T → Type 0)
    (carries : C → List T → Command → Reply → List T → C → Type 0) where
  -- what a call of a desk does
  abbrev pub Serves : Stands T C → Call → Stands T C → Type 0
  Serves before (Ask query answer) after = AsksFeed comes_to answers_for publishes before query answer after
  Serves before (Order command reply) after = CommandsFeed carries before command reply after

  -- turns of one connection, at whichever desks over the feed: each desk learns of what the answer before it stood on
  abbrev pub AreFeedTurns : List T → List (FeedTurn T C) → Type 0
  AreFeedTurns front [] = Unit {0}
  AreFeedTurns front (t ∷ ts) = LearnsFront t.before front t.learnt × Serves t.learnt t.call t.after × AreFeedTurns t.after.front ts

  -- at each turn of a connection after a call, the desk has seen a list that begins with what the desk had seen after that call
  abbrev pub ShowTheirWrites : Type 0
  ShowTheirWrites = (before : Stands T C) (call : Call) (done : Stands T C) (turns : List (FeedTurn T C))
      → Serves before call done → AreFeedTurns done.front turns → AllByRecursion (λ t. IsPrefix done.front t.after.front) turns

-- a registration is judged over a list that begins with all that was seen; then the pen is lent for the command, once; the list that is seen
-- then is the one that the command left: it wrote nothing, or the last item, or was refused
pub record PenCarries {K : Type 0} (keeps : K → List Record → Kept → K → Type 0) (base : Topic) (before : ℕ) (since : List Item) (c : Command)
    (reply : Reply) (front : List Item) (after : ℕ) : Type 0 where
  pub counts : after ≡ counted before
  pub judged : List Item
  pub judges : IsPrefix since judged
  pub written : IsWritten keeps base (Some judged) c reply front
  pub next : IsNext keeps base judged c reply front
