-- An event happens, and a list of events leads somewhere.
use Rattle.std.proofs.Common.{◌≡◌, ℕ, List, [], ◌∷◌, Bool, true, false, MatchBool, refl, sym, subst}
use Rattle.std.specs.FinSet.{from_list}
use Rattle.reg_leader.specs.reg_set.LastRecords.{last_records}
use Rattle.reg_leader.specs.declared.command.Command.{Command}
use Rattle.reg_topic.specs.Topic.{registry_of}
use Rattle.reg_topic.specs.declared.published.Item.TheVariants as items
use Rattle.reg_world.specs.Happens.{Does, Happens, at_floor, floors_agree, is_allowed, told, with_batch}
use Rattle.reg_world.specs.Runs.{Runs}
use Rattle.reg_world.specs.State.{State, compacted, no_records, publish, rebasing, set_at, settled, start, taking, topic_of, with_node}
use Rattle.reg_world.specs.declared.event.Event.{Event}
use Rattle.reg_world.specs.declared.event.Event.TheVariants as events
use Rattle.reg_world.specs.declared.event.Fate.{Fate}
use Rattle.reg_world.specs.declared.event.Outcome.{Outcome}
use Rattle.reg_world.specs.declared.event.Outcome.TheVariants as outcomes
use Rattle.reg_lookup.specs.declared.query.Query.{Query}
use Rattle.reg_existence.specs.Events.{EventsHappen, ListsOfEventsRun, NodesAnswer, WorldsExist}
use Rattle.reg_existence.specs.Steps.{AnswersExist, StepsExist}

-- what an event does, where it is allowed, and what happens
abbrev DoesSome : State → Event → Type 0
DoesSome s e = (o : Outcome) × (t : State) × Does s e o t

abbrev HappensSome : State → Event → Type 0
HappensSome s e = (o : Outcome) × (t : State) × Happens s e o t

-- what happens where the event is allowed, and where it isn't
abbrev WhereAllowed : State → Event → Outcome → State → Type 0
WhereAllowed s e o t = MatchBool (floors_agree s e) (Does s e o t) ((o ≡ outcomes.FloorsDiffer) × (t ≡ s))

abbrev Where : Bool → State → Event → Outcome → State → Type 0
Where b s e o t = MatchBool b (WhereAllowed s e o t) ((o ≡ outcomes.NotAllowed) × (t ≡ s))

pub allowed : (s t : State) (e : Event) (o : Outcome) → is_allowed s e ≡ true → floors_agree s e ≡ true → Does s e o t → Happens s e o t
unfolding Happens
allowed s t e o fine agree does =
    subst (λ b. Where b s e o t) (sym fine)
    (subst (λ b. MatchBool b (Does s e o t) ((o ≡ outcomes.FloorsDiffer) × (t ≡ s))) (sym agree) does)

differing : (s : State) (e : Event) → is_allowed s e ≡ true → floors_agree s e ≡ false → Happens s e outcomes.FloorsDiffer s
unfolding Happens
differing s e fine differ =
    subst (λ b. Where b s e outcomes.FloorsDiffer s) (sym fine)
    (subst (λ b. MatchBool b (Does s e outcomes.FloorsDiffer s) ((outcomes.FloorsDiffer ≡ outcomes.FloorsDiffer) × (s ≡ s)))
    (sym differ) (refl, refl))

not_allowed : (s : State) (e : Event) → is_allowed s e ≡ false → Happens s e outcomes.NotAllowed s
unfolding Happens
not_allowed s e refused = subst (λ b. Where b s e outcomes.NotAllowed s) (sym refused) (refl, refl)

module _ (steps : StepsExist) (answers : AnswersExist) where
  commands : (s : State) (node : ℕ) (command : Command) (fate : Fate) → DoesSome s (events.Command node command fate)
  commands s node command fate =
      let (reply, batch, step) = steps (registry_of (topic_of (settled s))) (topic_of (settled s)).next command in (
        outcomes.Replied (told fate reply batch),
        with_batch (settled s) fate command batch,
        record { reply = reply; batch = batch; step = step; outcome = refl; state = refl },
      )

  lookups : (s : State) (node : ℕ) (query : Query) → DoesSome s (events.Lookup node query)
  lookups s node query =
      let (answer, is) = answers (last_records (set_at s node).records) query in
      (outcomes.Answered answer, s, (answer, is, refl, refl))

  does_some : (s : State) (e : Event) → DoesSome s e
  does_some s (events.Command node command fate) = commands s node command fate
  does_some s (events.Compact dropped) =
      (outcomes.Done, publish (settled s) (items.Compaction (at_floor (topic_of (settled s)).kept.floor dropped)), (refl, refl))
  does_some s (events.CompactTo floor dropped) =
      (outcomes.Done, publish (settled s) (items.Compaction (at_floor floor dropped)), (refl, refl))
  does_some s (events.Take node records) = (outcomes.Done, with_node s node (taking (from_list records)), (refl, refl))
  does_some s (events.CompactNode node) = (outcomes.Done, with_node s node compacted, (refl, refl))
  does_some s (events.MergeFrom node other) = (outcomes.Done, with_node s node (taking (set_at s other).records), (refl, refl))
  does_some s (events.Rebase node) = (outcomes.Done, with_node s node (rebasing (topic_of s).kept), (refl, refl))
  does_some s (events.Restart node) = (outcomes.Done, with_node s node (λ _. no_records), (refl, refl))
  does_some s (events.Lookup node query) = lookups s node query

  happens_by : (s : State) (e : Event) (b c : Bool) → is_allowed s e ≡ b → floors_agree s e ≡ c → HappensSome s e
  happens_by s e true true fine agree = let (o, t, does) = does_some s e in (o, t, allowed s t e o fine agree does)
  happens_by s e true false fine differ = (outcomes.FloorsDiffer, s, differing s e fine differ)
  happens_by s e false c refused any = (outcomes.NotAllowed, s, not_allowed s e refused)

  pub events_happen : EventsHappen
  events_happen s e = happens_by s e (is_allowed s e) (floors_agree s e) refl refl

  pub nodes_answer : NodesAnswer
  nodes_answer s i there query =
      let (answer, is) = answers (last_records (set_at s i).records) query in
      (answer, allowed s s (events.Lookup i query) (outcomes.Answered answer) there refl (answer, is, refl, refl))

  abbrev RunsSome : State → List Event → Type 0
  RunsSome s es = (os : List Outcome) × (t : State) × Runs s es os t

  pub lists_of_events_run : ListsOfEventsRun
  lists_of_events_run s [] = ([], s, refl)
  lists_of_events_run s (e ∷ es) =
      let (o, mid, happens) = events_happen s e in
      let (os, t, runs) = lists_of_events_run mid es in
      (o ∷ os, t, (mid, happens, runs))

  pub worlds_exist : WorldsExist
  worlds_exist base count adopted events =
      let (os, t, runs) = lists_of_events_run (start base count) events in
      (t, record { base = base; adopted = adopted; count = count; outcomes = os; run = runs }, refl, refl)
