-- Lists of events.
use Rattle.std.specs.Prelude.{◌≡◌, ◌≤◌, ℕ, List, [], ◌∷◌, length, take}
use Rattle.reg_topic.specs.Topic.{IsAdopted}
use Rattle.reg_topic.specs.declared.topic.Topic.{Topic}
use Rattle.reg_world.specs.Happens.{Happens}
use Rattle.reg_world.specs.State.{State, start}
use Rattle.reg_world.specs.declared.event.Event.{Event}
use Rattle.reg_world.specs.declared.event.Outcome.{Outcome}
use Rattle.reg_world.specs.declared.world.RunError.{RunError}
use Rattle.reg_world.specs.declared.world.RunError.TheVariants.{OutOfMemory}

-- the events, one after the other, have these outcomes and lead there
abbrev pub Runs : State → List Event → List Outcome → State → Type 0
Runs s [] [] t = t ≡ s
Runs s (e ∷ es) (o ∷ os) t = (mid : State) × Happens s e o mid × Runs mid es os t
Runs s [] (o ∷ os) t = ⊥
Runs s (e ∷ es) [] t = ⊥

-- memory was refused after so many events, and they lead there
abbrev pub IsStopped : State → List Event → RunError → State → Type 0
IsStopped s es (OutOfMemory done) t = (done ≤ length es) × ((os : List Outcome) × Runs s (take done es) os t)

-- a world over an adopted base, after a list of events
pub record After (events : List Event) (t : State) : Type 0 where
  pub base : Topic
  pub adopted : IsAdopted base
  pub count : ℕ
  pub outcomes : List Outcome
  pub run : Runs (start base count) events outcomes t
