-- The headline's claims, of nodes that run.
use Rattle.std.proofs.Common.{ℕ, zero, suc, List, [], ◌∷◌, ◌++◌, get_or, fold, length, map, subst}
use Rattle.std.specs.FinSet.{empty}
use Rattle.std.specs.List.{AllByRecursion}
use Rattle.reg_alike.specs.AnswerAlike.{CompactionsAnswerAlike}
use Rattle.reg_set.specs.LastRecords.{last_records}
use Rattle.reg_set.specs.Records.{Records}
use Rattle.reg_lookup.specs.Answers.{HaveOneAnswer, IsAnswer}
use Rattle.reg_lookup.specs.declared.answered.Answer.{Answer}
use Rattle.reg_lookup.specs.declared.query.Query.{Query}
use Rattle.reg_topic.specs.Promises.{LawfulListsKeepIds, LawfulListsMeetLevels}
use Rattle.reg_topic.specs.declared.published.Item.{Item}
use Rattle.reg_shared.specs.Held.{Held, base_of}
use Rattle.reg_node.specs.Takes.{taken, taken_set, with_draw}
use Rattle.reg_world.specs.Headline.{AnswersAreOfTheSet, Ids, Levels, SameAnswers}
use Rattle.reg_running.specs.Calls.{ActsAreLawful}
use Rattle.reg_running.specs.Claims.{ClaimsHoldAtEachMoment, MomentsAreAfterEvents}
use Rattle.reg_running.specs.Claims.{SameAnswersAtMoments}
use Rattle.reg_running.specs.Claims.{RunningNodesAnswerAlike, RunningNodesKeepPromises}
use Rattle.reg_running.specs.Running.{AreAnswers, Deed, Drew, Told, IsRunningNode, published, draws}
use Rattle.reg_running.specs.Woven.{event_of, outcome_of}

pub after_events : MomentsAreAfterEvents
after_events r h done w m =
    record { base = base_of r.first; adopted = h.adopted; count = length r.nodes; outcomes = map outcome_of done; run = m.happens }

pub claims_hold : AnswersAreOfTheSet → Ids → Levels → ClaimsHoldAtEachMoment
claims_hold answers ids levels r h done w m =
    let events = map event_of done in
    let a = after_events r h done w m in record { answers = answers events w a; ids = ids events w a; levels = levels events w a }

pub same_at_moments : SameAnswers → SameAnswersAtMoments
same_at_moments same r q h k done others w v m n i j whole took tooks query one other gives givess =
    same (map event_of done) (map event_of others) w v (after_events r h done w m)
    (after_events q k others v n) i j whole took tooks query one other gives givess

-- an answer is that of what was taken before
answer_then : (set : Records) (before after : List Deed) (query : Query) (answer : Answer)
    → AreAnswers set (before ++ Told query answer ∷ after) → IsAnswer (last_records (fold with_draw set (draws before))) query answer
answer_then set [] after query answer h = h.0
answer_then set (Drew t ∷ before) after query answer h = answer_then (with_draw set t) before after query answer h
answer_then set (Told q a ∷ before) after query answer h = answer_then set before after query answer h.1

node_answers : (first : Held) (items : List Item) (lists : List (List Deed)) (i : ℕ)
    → AllByRecursion (IsRunningNode first items) lists → AreAnswers empty (get_or lists i [])
node_answers first items [] i h = tt
node_answers first items (ds ∷ lists) zero h = h.0.answers
node_answers first items (ds ∷ lists) (suc i) h = node_answers first items lists i h.1

pub answer_alike : CompactionsAnswerAlike → HaveOneAnswer → RunningNodesAnswerAlike
answer_alike alike single r q h k i j before after others rest query one other whole is at part parts =
    let mine : IsAnswer (last_records (taken (draws before))) query one =
    answer_then empty before after query one (subst (AreAnswers empty) is (node_answers r.first _ r.nodes i h.nodes)) in
    let theirs : IsAnswer (last_records (taken (draws others))) query other =
    answer_then empty others rest query other (subst (AreAnswers empty) at (node_answers q.first _ q.nodes j k.nodes)) in
    single (last_records whole.records) query one other
    ((alike (taken_set (draws before)) whole part query one).0 mine)
    ((alike (taken_set (draws others)) whole parts query other).0 theirs)

pub keep_promises : ActsAreLawful → LawfulListsKeepIds → LawfulListsMeetLevels → RunningNodesKeepPromises
keep_promises lawful ids levels r h =
    let base = base_of r.first in
    let is = lawful base r.acts (length r.nodes) h.acts in
    record { ids = ids base (published r.acts) h.adopted is; levels = levels base (published r.acts) is }
