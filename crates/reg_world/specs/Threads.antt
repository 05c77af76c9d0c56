-- Published items as events, for the running threads.
use Rattle.std.specs.Prelude.{◌≡◌, ◌≢◌, ℕ, true, None}
use Rattle.reg_topic.specs.Topic.{MayFollow}
use Rattle.reg_topic.specs.declared.published.Item.{Item}
use Rattle.reg_topic.specs.declared.published.Item.TheVariants as items
use Rattle.reg_world.specs.Happens.{Happens}
use Rattle.reg_world.specs.State.{State, has_node, publish, topic_of}
use Rattle.reg_world.specs.declared.event.Event.{Event}
use Rattle.reg_world.specs.declared.event.Event.TheVariants as events
use Rattle.reg_world.specs.declared.event.Fate.TheVariants.{Published}
use Rattle.reg_world.specs.declared.event.Outcome.{Outcome}
use Rattle.reg_world.specs.declared.event.Outcome.TheVariants as outcomes

-- the event that an item is, at a node that has no part in it
abbrev pub event_of : ℕ → Item → Event
event_of node (items.Commit commit) = events.Command node commit.command Published
event_of node (items.Compaction c) = events.CompactTo c.floor c.dropped

-- an item that may follow is an event that happens and publishes it
abbrev pub ItemsHappen : Type 0
ItemsHappen = (s : State) (node : ℕ) (i : Item) → s.unsettled ≡ None → has_node s node ≡ true → MayFollow (topic_of s) i
    → (o : Outcome) × Happens s (event_of node i) o (publish s i) × (o ≢ outcomes.NotAllowed)
