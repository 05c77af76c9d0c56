-- An item that may follow is an event that happens.
use Rattle.std.proofs.Common.{◌≡◌, ◌≢◌, true, List, [], ◌∷◌, None, refl, sym, ap, subst}
use Rattle.reg_alike.specs.reg_records.declared.record.Record.{Record}
use Rattle.reg_alike.specs.reg_leader.Step.{IsStep}
use Rattle.reg_topic.specs.Topic.{may_compact, registry_of}
use Rattle.reg_alike.specs.reg_leader.declared.command.Command.{Command}
use Rattle.reg_alike.specs.reg_leader.declared.reply.Reply.{Reply}
use Rattle.reg_topic.specs.declared.published.Item.TheVariants as items
use Rattle.reg_world.specs.Happens.{Steps, told}
use Rattle.reg_world.specs.State.{State, publish, settle, settled, topic_of}
use Rattle.reg_world.specs.Threads.{ItemsHappen}
use Rattle.reg_world.specs.declared.event.Event.TheVariants as events
use Rattle.reg_world.specs.declared.event.Fate.TheVariants.{Published}
use Rattle.reg_world.specs.declared.event.Outcome.TheVariants as outcomes
use Rattle.reg_world.proofs.Steps.{allowed}

-- nothing is unsettled
same_state : (s : State) → s.unsettled ≡ None → s ≡ settled s
same_state s none = sym (ap (λ u. settle u s) none)

replied : (reply : Reply) → outcomes.Replied reply ≢ outcomes.NotAllowed
replied reply e = cc

steps : (s : State) (command : Command) (reply : Reply) (batch : List Record)
    → batch ≢ [] → IsStep (registry_of (topic_of s)) (topic_of s).next command reply batch
    → Steps s command Published (outcomes.Replied (told Published reply batch))
    (publish s (items.Commit (record { command = command; batch = batch })))
steps s command reply [] writes step = absurd (writes refl)
steps s command reply (r ∷ rs) writes step = record { reply = reply; batch = r ∷ rs; step = step; outcome = refl; state = refl }

pub items_happen : ItemsHappen
items_happen s node (items.Commit commit) none fine may = (
  outcomes.Replied (told Published may.reply commit.batch),
  allowed s _ (events.Command node commit.command Published) _ fine refl (
      subst
      (λ w. Steps w commit.command Published (outcomes.Replied (told Published may.reply commit.batch)) (publish s (items.Commit commit)))
      (same_state s none) (steps s commit.command may.reply commit.batch may.writes may.step)),
  replied _,
)
items_happen s node (items.Compaction c) none fine may = (
  outcomes.Done,
  allowed s _ (events.CompactTo c.floor c.dropped) outcomes.Done (subst (λ w. may_compact (topic_of w) c ≡ true) (same_state s none) may)
      refl (refl, ap (λ w. publish w (items.Compaction c)) (same_state s none)),
  (λ e. cc),
)
