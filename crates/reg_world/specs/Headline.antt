-- The headline: what a registry of several nodes promises, after every list of events.
use Rattle.std.specs.Prelude.{◌≡◌, ◌↔◌, ℕ, List, Some, true, IfSome, slice_get}
use Rattle.std.specs.FinSet.{contains}
use Rattle.reg_alike.specs.reg_records.declared.key.Key.{Key}
use Rattle.reg_alike.specs.reg_records.declared.record.Record.{Record}
use Rattle.reg_alike.specs.reg_set.LastRecords.{last}
use Rattle.reg_alike.specs.reg_floored.Compaction.{IsCompactionOf}
use Rattle.reg_alike.specs.reg_floored.Floored.{Floored}
use Rattle.reg_alike.specs.reg_floored.Floors.{below, merged}
use Rattle.reg_alike.specs.reg_floored.Laws.{MergingIsAssociative, MergingIsCommutative, MergingIsIdempotent}
use Rattle.reg_topic.specs.Promises.{IdsAreForGood, MetLevels}
use Rattle.reg_topic.specs.Topic.{registry_of, whole_log}
use Rattle.reg_world.specs.Core.{HasAllThatWasPublished, HasLawfulLog, HasNodes}
use Rattle.reg_world.specs.Eager.{IsFoldedEagerly}
use Rattle.reg_world.specs.Happens.{Happens}
use Rattle.reg_world.specs.Runs.{After}
use Rattle.reg_alike.specs.reg_lookup.Answers.{IsAnswer, IsAnswerOver}
use Rattle.reg_world.specs.State.{State, topic_of}
use Rattle.reg_world.specs.declared.event.Event.{Event}
use Rattle.reg_world.specs.declared.event.Event.TheVariants as events
use Rattle.reg_world.specs.declared.event.Outcome.TheVariants as outcomes
use Rattle.reg_alike.specs.reg_lookup.declared.answered.Answer.{Answer}
use Rattle.reg_alike.specs.reg_lookup.declared.query.Query.{Query}
use Rattle.reg_world.specs.declared.node.WorldNode.{WorldNode}

-- what a node took since its restart, at the floor that it has
abbrev pub taken_by : WorldNode → Floored
taken_by node = record { records = node.took; floor = node.set.floor }

-- the i-th node took a compaction of that set
pub record Took (w : State) (i : ℕ) (whole : Floored) : Type 0 where
  pub node : WorldNode
  pub is_there : slice_get w.nodes i ≡ Some node
  pub compaction : IsCompactionOf (taken_by node) whole

-- a lookup at the i-th node gives that answer
abbrev pub Gives : State → ℕ → Query → Answer → Type 0
Gives w i query answer = Happens w (events.Lookup i query) (outcomes.Answered answer) w

-- each node gives exactly the answers of the set of which it took a compaction
abbrev pub GivesAnswersOfSets : State → Type 0
GivesAnswersOfSets w = (i : ℕ) (whole : Floored) → Took w i whole → (query : Query) (answer : Answer) → Gives w i query answer
    ↔ IsAnswerOver whole.records query answer

-- After any list of events, a node that took a set of records, or a compaction of it, gives exactly
-- the answers of that set.
abbrev pub AnswersAreOfTheSet : Type 0
AnswersAreOfTheSet = (events : List Event) (w : State) → After events w → GivesAnswersOfSets w

-- Same answers: nodes that took the same set of records, in any order, pieces and repeats, before or
-- after compactions, at whatever floors, here or in a world of other events, answer each query alike.
abbrev pub SameAnswers : Type 0
SameAnswers = (events others : List Event) (w v : State)
    → After events w
    → After others v
    → (i j : ℕ) (whole : Floored)
    → Took w i whole
    → Took v j whole
    → (query : Query) (one other : Answer) → Gives w i query one → Gives v j query other → one ≡ other

-- the i-th node is at the kept floor, and took, since its restart, each record that is kept now
pub record TookAll (w : State) (i : ℕ) : Type 0 where
  pub node : WorldNode
  pub is_there : slice_get w.nodes i ≡ Some node
  pub at_floor : node.set.floor ≡ (topic_of w).kept.floor
  pub all : (r : Record) → contains (topic_of w).kept.records r ≡ true → contains node.took r ≡ true

-- after any list of events, such a node took a compaction of the log
abbrev pub TakersOfAllCatchUp : Type 0
TakersOfAllCatchUp = (events : List Event) (w : State) → After events w → (i : ℕ) → TookAll w i → Took w i (whole_log (topic_of w))

-- the i-th node gives exactly the answers of a registry over the whole log
abbrev pub AnswersAsTheLog : State → ℕ → Type 0
AnswersAsTheLog w i = (query : Query) (answer : Answer) → Gives w i query answer ↔ IsAnswer (registry_of (topic_of w)) query answer

-- Caught up: after any list of events, a node that took a compaction of the log gives exactly the
-- answers of the whole log.
abbrev pub CaughtUpNodesAnswerAsTheLog : Type 0
CaughtUpNodesAnswerAsTheLog = (events : List Event) (w : State)
    → After events w
    → (i : ℕ)
    → Took w i (whole_log (topic_of w))
    → AnswersAsTheLog w i

-- the node is at the kept floor, and has the last kept record of each key
pub record HasKeptLasts (w : State) (node : WorldNode) : Type 0 where
  pub at_floor : node.set.floor ≡ (topic_of w).kept.floor
  pub lasts : (key : Key) → IfSome (last (topic_of w).kept.records key) (λ r. contains node.set.records r ≡ true)

-- its set is a compaction of the log, and it answers as that does
abbrev pub CatchesUp : State → Type 0
CatchesUp w = (i : ℕ) (node : WorldNode)
    → slice_get w.nodes i ≡ Some node
    → HasKeptLasts w node
    → IsCompactionOf node.set (whole_log (topic_of w)) × AnswersAsTheLog w i

-- After any list of events, each such node does.
abbrev pub NodesCatchUp : Type 0
NodesCatchUp = (events : List Event) (w : State) → After events w → CatchesUp w

-- two sets have the same answers
abbrev pub AnswerAlike : Floored → Floored → Type 0
AnswerAlike R S = (query : Query) (answer : Answer) → IsAnswerOver R.records query answer ↔ IsAnswerOver S.records query answer

-- Merging at equal floors: it is commutative, associative and idempotent, of sets and hence of answers,
-- and merging compactions that have the same records below their floor answers as merging the whole
-- sets does.
pub record Merging : Type 0 where
  pub commutative : MergingIsCommutative
  pub associative : MergingIsAssociative
  pub idempotent : MergingIsIdempotent
  pub answers_commute : (R S : Floored) → R.floor ≡ S.floor → AnswerAlike (merged R S) (merged S R)
  pub answers_associate : (R S T : Floored) → AnswerAlike (merged (merged R S) T) (merged R (merged S T))
  pub answers_repeat : (R : Floored) → AnswerAlike (merged R R) R
  pub compactions : (C R D S : Floored) → C.floor ≡ D.floor → below C.floor C.records ≡ below C.floor D.records
      → IsCompactionOf C R → IsCompactionOf D S → AnswerAlike (merged C D) (merged R S)

-- Ids: after any list of events, two entries of one id that stood in the log at any two moments since
-- the start have one schema.
abbrev pub Ids : Type 0
Ids = (events : List Event) (w : State) → After events w → IdsAreForGood w.base w.items

-- Levels: after any list of events, each version in the log that was registered outside IMPORT met
-- the level then in force against the versions then live.
abbrev pub Levels : Type 0
Levels = (events : List Event) (w : State) → After events w → MetLevels w.base w.items

-- some list of events leads there
abbrev pub IsReached : State → Type 0
IsReached w = (events : List Event) × After events w

-- the claims of one world
pub record KeepsTheHeadline (w : State) : Type 0 where
  pub log : HasLawfulLog w
  pub whole : HasAllThatWasPublished w
  pub kept : IsCompactionOf (topic_of w).kept (whole_log (topic_of w))
  pub nodes : HasNodes w
  pub answers : GivesAnswersOfSets w
  pub took_all : (i : ℕ) → TookAll w i → AnswersAsTheLog w i
  pub caught_up : CatchesUp w
  pub ids : IdsAreForGood w.base w.items
  pub levels : MetLevels w.base w.items
  pub eager : IsFoldedEagerly w

-- After any list of events they hold.
abbrev pub WorldsKeepTheHeadline : Type 0
WorldsKeepTheHeadline = (events : List Event) (w : State) → After events w → KeepsTheHeadline w
