-- The headline's first claim, of the bytes that are written.
use Rattle.std.specs.Prelude.{◌≡◌, ℕ, List, ◌∷◌, ◌++◌, [], Bool, get_or}
use Rattle.reg_floored.specs.Compaction.{IsCompactionOf}
use Rattle.reg_floored.specs.Floored.{Floored}
use Rattle.reg_lookup.specs.declared.answered.Answer.{Answer}
use Rattle.reg_lookup.specs.declared.query.Query.{Query}
use Rattle.reg_node.specs.Takes.{taken_set}
use Rattle.reg_responses.specs.Response.{answer_text}
use Rattle.reg_world.specs.Headline.{Gives, Took}
use Rattle.reg_world.specs.Runs.{After}
use Rattle.reg_world.specs.State.{State}
use Rattle.reg_world.specs.declared.event.Event.{Event}
use Rattle.reg_running.specs.Running.{Deed, Told, IsRunning, Running, draws}

-- nodes that took one set answer a query by one response, head and body, where both close the connection or neither does
abbrev pub SameBytes : Type 0
SameBytes = (events others : List Event) (w v : State) → After events w → After others v
    → (i j : ℕ) (whole : Floored) → Took w i whole → Took v j whole
    → (query : Query) (one other : Answer) → Gives w i query one → Gives v j query other
    → (closes : Bool) → answer_text closes one ≡ answer_text closes other

-- so do running nodes that had taken compactions of one set when they were asked
abbrev pub RunningNodesWriteAlike : Type 0
RunningNodesWriteAlike = (r q : Running)
    → IsRunning r
    → IsRunning q
    → (i j : ℕ) (before after others rest : List Deed) (query : Query) (one other : Answer) (whole : Floored)
    → get_or r.nodes i [] ≡ before ++ Told query one ∷ after → get_or q.nodes j [] ≡ others ++ Told query other ∷ rest
    → IsCompactionOf (taken_set (draws before)) whole → IsCompactionOf (taken_set (draws others)) whole
    → (closes : Bool) → answer_text closes one ≡ answer_text closes other
