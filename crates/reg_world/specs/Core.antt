-- What holds after every list of events, beside the headline.
use Rattle.std.specs.Prelude.{◌≡◌, ◌⊎◌, ◌↔◌, ◌<◌, ◌≤◌, ℕ, List, ◌∷◌, ◌++◌, Bool, true}
use Rattle.std.specs.Prelude.{false, ◌&&◌, None, Some, IfSome, MatchBool, slice_get}
use Rattle.std.specs.FinSet.{contains, from_list, union}
use Rattle.reg_alike.specs.reg_records.declared.key.Key.{Key}
use Rattle.reg_alike.specs.reg_records.declared.record.Record.{Record}
use Rattle.reg_alike.specs.reg_set.LastRecords.{last}
use Rattle.reg_alike.specs.reg_floored.Compaction.{IsCompactionOf, KeepsLasts}
use Rattle.reg_topic.specs.Topic.{IsAdopted, IsLawful, MayCommit, after_batch, published_by, whole_log}
use Rattle.reg_topic.specs.declared.published.Item.{Item}
use Rattle.reg_topic.specs.declared.published.Item.TheVariants as items
use Rattle.reg_topic.specs.declared.topic.Topic.{Topic}
use Rattle.reg_world.specs.Happens.{Happens, floors_agree, is_allowed}
use Rattle.reg_world.specs.Runs.{After}
use Rattle.reg_world.specs.State.{State, settled, topic_of}
use Rattle.reg_world.specs.declared.event.Event.{Event}
use Rattle.reg_world.specs.declared.event.Event.TheVariants as events
use Rattle.reg_world.specs.declared.event.Outcome.{Outcome}
use Rattle.reg_world.specs.declared.event.Outcome.TheVariants as outcomes
use Rattle.reg_world.specs.declared.node.WorldNode.{WorldNode}

-- the log is an adopted base and lawful items after it, and what isn't settled may follow on it
abbrev pub HasLawfulLog : State → Type 0
HasLawfulLog w = IsAdopted w.base × IsLawful w.base w.items × IfSome w.unsettled (MayCommit (topic_of w))

abbrev pub LogIsLawful : Type 0
LogIsLawful = (events : List Event) (w : State) → After events w → HasLawfulLog w

-- no item was skipped, as one that can't follow would be: the log is the base's with all that the items published
abbrev pub HasAllThatWasPublished : State → Type 0
HasAllThatWasPublished w = (topic_of w).log ≡ union w.base.log (from_list (published_by w.items))

abbrev pub NoItemIsSkipped : Type 0
NoItemIsSkipped = (events : List Event) (w : State) → After events w → HasAllThatWasPublished w

-- the kept set is a compaction of the log
abbrev pub KeptIsCompaction : Type 0
KeptIsCompaction = (events : List Event) (w : State) → After events w → IsCompactionOf (topic_of w).kept (whole_log (topic_of w))

-- a node's set keeps each last record of what it took, a part of the log, at a floor that isn't ahead of the kept one
pub record IsNodeOf (t : Topic) (node : WorldNode) : Type 0 where
  pub lasts : KeepsLasts node.set.records node.took
  pub part : (r : Record) → contains node.took r ≡ true → contains t.log r ≡ true
  pub not_ahead : node.set.floor ≤ t.kept.floor
  -- of a key that the log deletes below the node's floor, nothing stands at the node but behind that delete
  pub none_is_back : (r : Record) → last t.log r.key ≡ Some r → r.value ≡ None → r.offset < node.set.floor
      → (last node.set.records r.key ≡ None) ⊎ (contains node.set.records r ≡ true)
  -- at the kept floor it has each kept last record below that
  pub has_lower : node.set.floor ≡ t.kept.floor
      → (key : Key)
      → IfSome (last t.kept.records key) (λ r. r.offset < node.set.floor → contains node.set.records r ≡ true)

abbrev pub HasNodes : State → Type 0
HasNodes w = (i : ℕ) → IfSome (slice_get w.nodes i) (IsNodeOf (topic_of w))

abbrev pub NodesAreCompactions : Type 0
NodesAreCompactions = (events : List Event) (w : State) → After events w → HasNodes w

-- which events are refused: one that isn't allowed, and else one between unequal floors; either changes nothing
pub record IsRefusedExactly (s t : State) (e : Event) (o : Outcome) : Type 0 where
  pub not_allowed : (o ≡ outcomes.NotAllowed) ↔ (is_allowed s e ≡ false)
  pub floors_differ : (o ≡ outcomes.FloorsDiffer) ↔ ((is_allowed s e ≡ true) × (floors_agree s e ≡ false))
  pub unchanged : (o ≡ outcomes.NotAllowed) ⊎ (o ≡ outcomes.FloorsDiffer) → t ≡ s

abbrev pub RefusedExactly : Type 0
RefusedExactly = (s t : State) (e : Event) (o : Outcome) → Happens s e o t → IsRefusedExactly s t e o

-- whether the event settles first what isn't settled, where it is allowed
abbrev pub settles_first : Event → Bool
settles_first (events.Command node command fate) = true
settles_first (events.Compact dropped) = true
settles_first (events.CompactTo floor dropped) = true
settles_first (events.Take node records) = false
settles_first (events.CompactNode node) = false
settles_first (events.MergeFrom node other) = false
settles_first (events.Rebase node) = false
settles_first (events.Restart node) = false
settles_first (events.Lookup node query) = false

-- a command or compaction that is allowed publishes first what isn't settled; whatever else happens publishes nothing, and leaves it so
abbrev pub UnsettledComesFirst : Type 0
UnsettledComesFirst = (s t : State) (e : Event) (o : Outcome) → Happens s e o t → IfSome s.unsettled (λ commit.
    MatchBool (settles_first e && is_allowed s e)
    ((rest : List Item) × (t.items ≡ s.items ++ items.Commit commit ∷ rest))
    ((t.items ≡ s.items) × (t.unsettled ≡ s.unsettled))
    )

-- such an event is allowed exactly where it is once that is published, and what happens, where it is allowed, is what happens then
abbrev pub UnsettledCounts : Type 0
UnsettledCounts = (s : State) (e : Event) → settles_first e ≡ true
    → (is_allowed s e ≡ is_allowed (settled s) e)
    × (is_allowed s e ≡ true → (o : Outcome) (t : State) → Happens s e o t ↔ Happens (settled s) e o t)

-- and it isn't skipped then: its batch joins the log and the kept set
abbrev pub UnsettledGoesOn : Type 0
UnsettledGoesOn = (events : List Event) (w : State)
    → After events w
    → IfSome w.unsettled (λ commit. topic_of (settled w) ≡ after_batch true (topic_of w) commit.batch)
