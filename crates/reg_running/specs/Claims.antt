-- The headline's claims, of nodes that run.
use Rattle.std.specs.Prelude.{◌≡◌, ℕ, List, [], ◌∷◌, ◌++◌, get_or, map}
use Rattle.reg_floored.specs.Compaction.{IsCompactionOf}
use Rattle.reg_floored.specs.Floored.{Floored}
use Rattle.reg_topic.specs.Promises.{IdsAreForGood, MetLevels}
use Rattle.reg_lookup.specs.declared.answered.Answer.{Answer}
use Rattle.reg_lookup.specs.declared.query.Query.{Query}
use Rattle.reg_shared.specs.Held.{base_of}
use Rattle.reg_node.specs.Takes.{taken_set}
use Rattle.reg_world.specs.Headline.{Gives, GivesAnswersOfSets, Took}
use Rattle.reg_world.specs.Runs.{After}
use Rattle.reg_world.specs.State.{State}
use Rattle.reg_running.specs.Running.{Deed, Told, IsRunning, Running, published, draws}
use Rattle.reg_running.specs.Woven.{Done, IsMoment, event_of}

-- each moment is one after a list of events, so what holds after every list of events holds then
abbrev pub MomentsAreAfterEvents : Type 0
MomentsAreAfterEvents = (r : Running) → IsRunning r → (done : List Done) (w : State) → IsMoment r done w → After (map event_of done) w

-- the headline's claims of that world, in its words
pub record KeepsTheHeadline (w : State) : Type 0 where
  pub answers : GivesAnswersOfSets w
  pub ids : IdsAreForGood w.base w.items
  pub levels : MetLevels w.base w.items

abbrev pub ClaimsHoldAtEachMoment : Type 0
ClaimsHoldAtEachMoment = (r : Running) → IsRunning r → (done : List Done) (w : State) → IsMoment r done w → KeepsTheHeadline w

abbrev pub SameAnswersAtMoments : Type 0
SameAnswersAtMoments = (r q : Running)
    → IsRunning r
    → IsRunning q
    → (done others : List Done) (w v : State)
    → IsMoment r done w
    → IsMoment q others v
    → (i j : ℕ) (whole : Floored)
    → Took w i whole
    → Took v j whole
    → (query : Query) (one other : Answer)
    → Gives w i query one
    → Gives v j query other
    → one ≡ other

-- Same answers: nodes, of one running registry or of two, that had taken compactions of one set when they were asked told one answer.
abbrev pub RunningNodesAnswerAlike : Type 0
RunningNodesAnswerAlike = (r q : Running)
    → IsRunning r
    → IsRunning q
    → (i j : ℕ) (before after others rest : List Deed) (query : Query) (one other : Answer) (whole : Floored)
    → get_or r.nodes i [] ≡ before ++ Told query one ∷ after → get_or q.nodes j [] ≡ others ++ Told query other ∷ rest
    → IsCompactionOf (taken_set (draws before)) whole → IsCompactionOf (taken_set (draws others)) whole → one ≡ other

-- Ids and levels: of what was published since the start
pub record KeepsPromises (r : Running) : Type 0 where
  pub ids : IdsAreForGood (base_of r.first) (published r.acts)
  pub levels : MetLevels (base_of r.first) (published r.acts)

abbrev pub RunningNodesKeepPromises : Type 0
RunningNodesKeepPromises = (r : Running) → IsRunning r → KeepsPromises r
