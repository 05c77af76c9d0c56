-- What is done with a command at a desk over a log that others write too.
use Rattle.std.specs.Prelude.{◌≡◌, ◌⊎◌, List, Option, Some, None}
use mathlib.Core.List.{IsPrefix}
use Rattle.reg_records.specs.declared.record.Record.{Record}
use Rattle.reg_refusals.specs.declared.reason.StoreFault.TheVariants as faults
use Rattle.reg_refusals.specs.declared.refusal.Refusal.TheVariants as refusals
use Rattle.reg_leader.specs.declared.command.Command.{Command}
use Rattle.reg_leader.specs.declared.reply.Reply.{Reply}
use Rattle.reg_leader.specs.declared.reply.Reply.TheVariants as replies
use Rattle.reg_topic.specs.declared.published.Item.{Item}
use Rattle.reg_topic.specs.declared.topic.Topic.{Topic}
use Rattle.reg_pen.specs.Pen.{IsPen, PenState}
use Rattle.reg_chain.specs.declared.chain.ChainAnswer.{ChainAnswer}
use Rattle.reg_join.specs.Ending.{Ends}
use Rattle.reg_join.specs.Joined.{IsJoined}
use Rattle.reg_join.specs.Taking.{StopsAtNobodys}
use Rattle.reg_join.specs.declared.commanding.JoinOutcome.{JoinOutcome}
use Rattle.reg_join.specs.declared.commanding.JoinOutcome.TheVariants as outcomes
use Rattle.reg_join.specs.declared.join_keep.JoinKeep.{JoinKeep}

-- the reply to a command that was declined, or that may not wait for the log
abbrev pub declined_reply : Reply
declined_reply = replies.Refused (refusals.Store faults.Declined)

-- the reply to a command, by what it came to
abbrev pub outcome_reply : JoinOutcome → Reply
outcome_reply (outcomes.Replied reply) = reply
outcome_reply (outcomes.Unsettled offset) = replies.Unsettled offset
outcome_reply (outcomes.Live id) = replies.Id id
outcome_reply outcomes.NoMemory = replies.Refused (refusals.Store faults.Memory)
outcome_reply outcomes.Overtaken = replies.Refused (refusals.Store faults.Overtaken)
outcome_reply outcomes.Declined = declined_reply
outcome_reply outcomes.Stopped = declined_reply

-- the list that is seen is the longer one of that before and the one that was told
pub record ShowsLonger (judged told front : List Item) : Type 0 where
  pub one : (front ≡ judged) ⊎ (front ≡ told)
  pub this : IsPrefix judged front
  pub that : IsPrefix told front

-- where no list was told, the one before stays
abbrev pub ShowsTold : List Item → Option (List Item) → List Item → Type 0
ShowsTold judged None front = front ≡ judged
ShowsTold judged (Some told) front = ShowsLonger judged told front

module _ {C : Type 0} (told : C → List (List Record)) (answers : C → List Record → ChainAnswer → C → Type 0) (base : Topic) where
  -- the command was done at a lawful pen whose batches were those that its chain told, and are afterwards, and whose list began with all
  -- that whoever asked had seen: what that came to, and the list that was told, if one was. The pen is stopped then only where the chain
  -- told a batch that no command writes
  pub record IsOrdered (since : List Item) (c : Command) (outcome : JoinOutcome) (seen : Option (List Item)) : Type 0 where
    pub old : PenState (JoinKeep C)
    pub was : IsPen base old.published old.pending
    pub was_joined : IsJoined told old
    pub begun : IsPrefix since old.published
    pub new : PenState (JoinKeep C)
    pub joined : IsJoined told new
    pub grows : IsPrefix old.published new.published
    pub stops : StopsAtNobodys told base new
    pub ends : Ends told answers base old c outcome seen new

  -- a registration is judged over a list that begins with all that was seen; the command is done at the pen; its reply is that of what it
  -- came to; and the list that was told is seen then, or a longer one
  pub record JoinOrders (since : List Item) (c : Command) (reply : Reply) (front : List Item) : Type 0 where
    pub judged : List Item
    pub judges : IsPrefix since judged
    pub outcome : JoinOutcome
    pub seen : Option (List Item)
    pub ordered : IsOrdered judged c outcome seen
    pub replies : reply ≡ outcome_reply outcome
    pub shows : ShowsTold judged seen front

  -- a command is done at the pen; or it is declined, since no more workers may wait for the log, and nothing changes
  abbrev pub JoinCarries : List Item → Command → Reply → List Item → Type 0
  JoinCarries since c reply front = ((reply ≡ declined_reply) × (front ≡ since)) ⊎ JoinOrders since c reply front

  -- whoever is told a reply has then seen the list of which that is the reply: what the command wrote, if anything, is its last item
  abbrev pub ShowWhatTheyReply : Type 0
  ShowWhatTheyReply = (since : List Item) (c : Command) (reply replied : Reply) (front : List Item) → (done : JoinOrders since c reply front)
      → done.outcome ≡ outcomes.Replied replied → done.seen ≡ Some front
