-- Each event happens, in one way, and there are worlds for the headline to speak of.
use Rattle.std.specs.Prelude.{◌≡◌, ℕ, List, true}
use Rattle.std.specs.FinSet.{empty}
use Rattle.reg_lookup.specs.declared.answered.Answer.{Answer}
use Rattle.reg_lookup.specs.declared.query.Query.{Query}
use Rattle.reg_topic.specs.Topic.{IsAdopted}
use Rattle.reg_topic.specs.declared.topic.Topic.{Topic}
use Rattle.reg_world.specs.Happens.{Happens}
use Rattle.reg_world.specs.Headline.{Gives}
use Rattle.reg_world.specs.Runs.{After, Runs}
use Rattle.reg_world.specs.State.{State, has_node}
use Rattle.reg_world.specs.declared.event.Event.{Event}
use Rattle.reg_world.specs.declared.event.Outcome.{Outcome}

-- an event happens in any state: it has an outcome, and there is a state after it
abbrev pub EventsHappen : Type 0
EventsHappen = (s : State) (e : Event) → (o : Outcome) × (t : State) × Happens s e o t

-- a node that is there gives an answer to each query
abbrev pub NodesAnswer : Type 0
NodesAnswer = (s : State) (i : ℕ) → has_node s i ≡ true → (query : Query) → (answer : Answer) × Gives s i query answer

-- a list of events leads somewhere, from any state
abbrev pub ListsOfEventsRun : Type 0
ListsOfEventsRun = (s : State) (es : List Event) → (os : List Outcome) × (t : State) × Runs s es os t

-- an event has one outcome, and one state comes after it
abbrev pub EventsAreSingle : Type 0
EventsAreSingle = (s : State) (e : Event) (o other : Outcome) (t u : State) → Happens s e o t → Happens s e other u → (o ≡ other) × (t ≡ u)

-- so a list of events leads to one state, with the same outcomes
abbrev pub ListsOfEventsAreSingle : Type 0
ListsOfEventsAreSingle = (s : State) (es : List Event) (os others : List Outcome) (t u : State)
    → Runs s es os t
    → Runs s es others u
    → (os ≡ others) × (t ≡ u)

-- there is a world after each list of events, over each adopted base and with each number of nodes
abbrev pub WorldsExist : Type 0
WorldsExist = (base : Topic) (count : ℕ)
    → IsAdopted base
    → (events : List Event)
    → (w : State) × (after : After events w) × (after.base ≡ base) × (after.count ≡ count)

-- and there is an adopted base: the topic without a record
abbrev pub EmptyTopicIsAdopted : Type 0
EmptyTopicIsAdopted = IsAdopted (record { log = empty; kept = record { records = empty; floor = 0 }; next = 0; compacted = 0 })
