-- A node can catch up with the log.
use Rattle.std.specs.Prelude.{◌≡◌, ℕ, List, [], ◌∷◌, ◌++◌, true}
use Rattle.std.specs.FinSet.{items}
use Rattle.reg_topic.specs.Topic.{whole_log}
use Rattle.reg_world.specs.Headline.{Took}
use Rattle.reg_world.specs.Runs.{After}
use Rattle.reg_world.specs.State.{State, has_node, set_at, topic_of}
use Rattle.reg_world.specs.declared.event.Event.{Event}
use Rattle.reg_world.specs.declared.event.Event.TheVariants as events

-- the node takes all that is kept
abbrev pub take_all : State → ℕ → Event
take_all w i = events.Take i (items (topic_of w).kept.records)

-- after these events more the node took a compaction of the log, and the topic is as it was
abbrev pub CatchesUpBy : List Event → State → ℕ → List Event → Type 0
CatchesUpBy es w i more = (v : State) × After (es ++ more) v × (topic_of v ≡ topic_of w) × Took v i (whole_log (topic_of w))

-- after any list of events a node at the kept floor catches up by taking all that is kept, whatever it took before
abbrev pub NodesMayCatchUp : Type 0
NodesMayCatchUp = (es : List Event) (w : State) → After es w → (i : ℕ) → has_node w i ≡ true → (set_at w i).floor ≡ (topic_of w).kept.floor
    → CatchesUpBy es w i (take_all w i ∷ [])

-- and a node at any floor by a rebase before that
abbrev pub RebasedNodesMayCatchUp : Type 0
RebasedNodesMayCatchUp = (es : List Event) (w : State) → After es w → (i : ℕ) → has_node w i ≡ true
    → CatchesUpBy es w i (events.Rebase i ∷ take_all w i ∷ [])
