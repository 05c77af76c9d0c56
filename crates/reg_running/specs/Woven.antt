-- What was done as one list, which is a list of a world's events.
use Rattle.std.specs.Prelude.{◌≡◌, ◌<◌, ℕ, ◌+◌, List, [], ◌∷◌, ◌++◌, length, map, get_or, slice_get, ◌==◌, if◌then◌else◌, Some, None}
use Rattle.reg_shared.specs.Held.{base_of}
use Rattle.reg_node.specs.Takes.{taken, taken_set}
use Rattle.reg_node.specs.declared.take.Draw.{Draw}
use Rattle.reg_node.specs.declared.take.Draw.TheVariants as drawn
use Rattle.reg_world.specs.Runs.{Runs}
use Rattle.reg_world.specs.State.{State, start}
use Rattle.reg_world.specs.declared.event.Event.{Event}
use Rattle.reg_world.specs.declared.event.Event.TheVariants as events
use Rattle.reg_world.specs.declared.event.Fate.TheVariants.{Published}
use Rattle.reg_world.specs.declared.event.Outcome.{Outcome}
use Rattle.reg_world.specs.declared.event.Outcome.TheVariants as outcomes
use Rattle.reg_world.specs.declared.node.WorldNode.{WorldNode}
use Rattle.reg_running.specs.Running.{Act, Carried, Dropped, Deed, Drew, Told, IsRunning, Running, items_of, published, draws}

-- what was done: an act of the pen's, or a deed of a node's
pub data Done : Type 0 where
  ByPen : (act : Act) → Done
  ByNode : (node : ℕ) (deed : Deed) → Done

abbrev pub acts_in : List Done → List Act
acts_in [] = []
acts_in (ByPen act ∷ done) = act ∷ acts_in done
acts_in (ByNode node deed ∷ done) = acts_in done

abbrev pub deeds_of : ℕ → List Done → List Deed
deeds_of i [] = []
deeds_of i (ByPen act ∷ done) = deeds_of i done
deeds_of i (ByNode node deed ∷ done) = if node == i then deed ∷ deeds_of i done else deeds_of i done

-- how many items its pull had read
abbrev pub read_of : Draw → ℕ
read_of (drawn.Take t) = t.read
read_of (drawn.Rebase r) = r.read

-- each draw stands directly after the last item that its pull had read: as many items stand before it
abbrev pub AreInPlace : ℕ → List Done → Type 0
AreInPlace read [] = Unit {0}
AreInPlace read (ByPen act ∷ done) = AreInPlace (read + length (items_of act)) done
AreInPlace read (ByNode node (Drew draw) ∷ done) = (read_of draw ≡ read) × AreInPlace read done
AreInPlace read (ByNode node (Told query answer) ∷ done) = AreInPlace read done

-- all that was done, the pen's acts and each node's deeds in their own order, and each draw in its place
pub record IsWoven (r : Running) (done : List Done) : Type 0 where
  pub acts : acts_in done ≡ r.acts
  pub deeds : (i : ℕ) → deeds_of i done ≡ get_or r.nodes i []
  pub places : AreInPlace 0 done

-- the event that it is
abbrev pub event_of : Done → Event
event_of (ByPen (Carried node command reply batch)) = events.Command node command Published
event_of (ByPen (Dropped c)) = events.CompactTo c.floor c.dropped
event_of (ByNode node (Drew (drawn.Take t))) = events.Take node (t.kept ∷ [])
event_of (ByNode node (Drew (drawn.Rebase r))) = events.Rebase node
event_of (ByNode node (Told query answer)) = events.Lookup node query

-- the outcome that its caller got, where it got one
abbrev pub outcome_of : Done → Outcome
outcome_of (ByPen (Carried node command reply batch)) = outcomes.Replied reply
outcome_of (ByPen (Dropped c)) = outcomes.Done
outcome_of (ByNode node (Drew draw)) = outcomes.Done
outcome_of (ByNode node (Told query answer)) = outcomes.Answered answer

-- the events, one after the other, have these outcomes and lead there
abbrev pub HappensInTurn : State → List Done → State → Type 0
HappensInTurn s done t = Runs s (map event_of done) (map outcome_of done) t

abbrev pub beginning : Running → State
beginning r = start (base_of r.first) (length r.nodes)

-- a node that took exactly what that one took
abbrev pub node_of : List Deed → WorldNode
node_of deeds = record { set = taken_set (draws deeds); took = taken (draws deeds) }

-- the world that some of what was done leads to: its items are what was published, and its nodes took what the running ones took
pub record IsMoment (r : Running) (done : List Done) (w : State) : Type 0 where
  pub happens : HappensInTurn (beginning r) done w
  pub base : w.base ≡ base_of r.first
  pub items : w.items ≡ published (acts_in done)
  pub settled : w.unsettled ≡ None
  pub nodes : (i : ℕ) → i < length r.nodes → slice_get w.nodes i ≡ Some (node_of (deeds_of i done))

-- Running nodes are a world: all that was done, in each such order, is a list of a world's events
-- with the outcomes that the callers got, and so is each beginning of it.
abbrev pub RunningNodesAreAWorld : Type 0
RunningNodesAreAWorld = (r : Running) → IsRunning r → (done rest : List Done) → IsWoven r (done ++ rest) → (w : State) × IsMoment r done w

-- and there is such an order
abbrev pub RunningNodesAreWoven : Type 0
RunningNodesAreWoven = (r : Running) → IsRunning r → (done : List Done) × IsWoven r done
