-- What an event does to a state, and its outcome.
use Rattle.std.specs.Prelude.{◌≡◌, ℕ, List, [], ◌∷◌, Bool, true, ◌&&◌, ◌==◌, MatchBool}
use Rattle.std.specs.FinSet.{contains, from_list}
use Rattle.std.specs.List.{list_all}
use Rattle.reg_alike.specs.reg_records.declared.record.Record.{Record}
use Rattle.reg_alike.specs.reg_leader.Step.{IsStep}
use Rattle.reg_topic.specs.Topic.{may_compact, registry_of}
use Rattle.reg_alike.specs.reg_leader.declared.command.Command.{Command}
use Rattle.reg_alike.specs.reg_leader.declared.reply.Reply.{Reply}
use Rattle.reg_alike.specs.reg_leader.declared.reply.Reply.TheVariants as replies
use Rattle.reg_topic.specs.declared.published.Compaction.{Compaction}
use Rattle.reg_topic.specs.declared.published.Item.TheVariants as items
use Rattle.reg_alike.specs.reg_lookup.Answers.{IsAnswerOver}
use Rattle.reg_world.specs.State.{State, compacted, has_node, leave_unsettled, no_records}
use Rattle.reg_world.specs.State.{publish, rebasing, set_at, settled, taking}
use Rattle.reg_world.specs.State.{topic_of, with_node}
use Rattle.reg_world.specs.declared.event.Event.{Event}
use Rattle.reg_world.specs.declared.event.Event.TheVariants as events
use Rattle.reg_world.specs.declared.event.Fate.{Fate}
use Rattle.reg_world.specs.declared.event.Fate.TheVariants.{Published, Unsettled, Lost}
use Rattle.reg_world.specs.declared.event.Outcome.{Outcome}
use Rattle.reg_world.specs.declared.event.Outcome.TheVariants as outcomes
use Rattle.reg_alike.specs.reg_lookup.declared.answered.Answer.{Answer}

-- records leave the kept set, which then has that floor
abbrev pub at_floor : ℕ → List Record → Compaction
at_floor floor dropped = record { floor = floor; dropped = dropped }

-- whether the event is allowed: its nodes are there, its compaction may be, it takes kept records alone
abbrev pub is_allowed : State → Event → Bool
is_allowed s (events.Command node command fate) = has_node s node
is_allowed s (events.Compact dropped) = may_compact (topic_of (settled s)) (at_floor (topic_of (settled s)).kept.floor dropped)
is_allowed s (events.CompactTo floor dropped) = may_compact (topic_of (settled s)) (at_floor floor dropped)
is_allowed s (events.Take node records) = has_node s node && list_all (contains (topic_of s).kept.records) records
is_allowed s (events.CompactNode node) = has_node s node
is_allowed s (events.MergeFrom node other) = has_node s node && has_node s other
is_allowed s (events.Rebase node) = has_node s node
is_allowed s (events.Restart node) = has_node s node
is_allowed s (events.Lookup node query) = has_node s node

-- whether the two sets that the event brings together have one floor
abbrev pub floors_agree : State → Event → Bool
floors_agree s (events.Command node command fate) = true
floors_agree s (events.Compact dropped) = true
floors_agree s (events.CompactTo floor dropped) = true
floors_agree s (events.Take node records) = (set_at s node).floor == (topic_of s).kept.floor
floors_agree s (events.CompactNode node) = true
floors_agree s (events.MergeFrom node other) = (set_at s node).floor == (set_at s other).floor
floors_agree s (events.Rebase node) = true
floors_agree s (events.Restart node) = true
floors_agree s (events.Lookup node query) = true

-- the reply that the caller gets
abbrev pub told : Fate → Reply → List Record → Reply
told fate reply [] = reply
told Published reply (r ∷ rs) = reply
told Unsettled reply (r ∷ rs) = replies.Unsettled r.offset
told Lost reply (r ∷ rs) = replies.Unsettled r.offset

-- what becomes of the batch
abbrev pub with_batch : State → Fate → Command → List Record → State
with_batch s fate command [] = s
with_batch s Published command (r ∷ rs) = publish s (items.Commit (record { command = command; batch = r ∷ rs }))
with_batch s Unsettled command (r ∷ rs) = leave_unsettled s (record { command = command; batch = r ∷ rs })
with_batch s Lost command (r ∷ rs) = s

-- the command steps from all that was published, once what wasn't settled is
pub record Steps (s : State) (command : Command) (fate : Fate) (o : Outcome) (t : State) : Type 0 where
  pub reply : Reply
  pub batch : List Record
  pub step : IsStep (registry_of (topic_of s)) (topic_of s).next command reply batch
  pub outcome : o ≡ outcomes.Replied (told fate reply batch)
  pub state : t ≡ with_batch s fate command batch

-- what an event does that is allowed, at sets of one floor
abbrev pub Does : State → Event → Outcome → State → Type 0
Does s (events.Command node command fate) o t = Steps (settled s) command fate o t
Does s (events.Compact dropped) o t = (o ≡ outcomes.Done)
    × (t ≡ publish (settled s) (items.Compaction (at_floor (topic_of (settled s)).kept.floor dropped)))
Does s (events.CompactTo floor dropped) o t = (o ≡ outcomes.Done) × (t ≡ publish (settled s) (items.Compaction (at_floor floor dropped)))
Does s (events.Take node records) o t = (o ≡ outcomes.Done) × (t ≡ with_node s node (taking (from_list records)))
Does s (events.CompactNode node) o t = (o ≡ outcomes.Done) × (t ≡ with_node s node compacted)
Does s (events.MergeFrom node other) o t = (o ≡ outcomes.Done) × (t ≡ with_node s node (taking (set_at s other).records))
Does s (events.Rebase node) o t = (o ≡ outcomes.Done) × (t ≡ with_node s node (rebasing (topic_of s).kept))
Does s (events.Restart node) o t = (o ≡ outcomes.Done) × (t ≡ with_node s node (λ _. no_records))
Does s (events.Lookup node query) o t = (answer : Answer) × IsAnswerOver (set_at s node).records query answer
    × (o ≡ outcomes.Answered answer) × (t ≡ s)

-- one that isn't allowed changes nothing, and no more does one between unequal floors
unfoldable pub Happens : State → Event → Outcome → State → Type 0
Happens s e o t =
    MatchBool (is_allowed s e) (MatchBool (floors_agree s e) (Does s e o t) ((o ≡ outcomes.FloorsDiffer) × (t ≡ s)))
    ((o ≡ outcomes.NotAllowed) × (t ≡ s))
