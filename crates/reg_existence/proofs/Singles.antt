-- An event has one outcome, and one state comes after it.
use Rattle.std.proofs.Common.{◌≡◌, [], ◌∷◌, Bool, true, false, MatchBool, refl, sym, ◌∙◌, ap, ap₂, subst}
use Rattle.reg_leader.specs.OneStep.{StepsAreSingle}
use Rattle.reg_leader.specs.declared.command.Command.{Command}
use Rattle.reg_topic.specs.Topic.{registry_of}
use Rattle.reg_lookup.specs.Answers.{HaveOneAnswer}
use Rattle.reg_leader.specs.reg_set.LastRecords.{last_records}
use Rattle.reg_world.specs.Happens.{Does, Happens, Steps, floors_agree, is_allowed, told, with_batch}
use Rattle.reg_world.specs.Runs.{Runs}
use Rattle.reg_world.specs.State.{State, set_at, settled, topic_of}
use Rattle.reg_world.specs.declared.event.Event.{Event}
use Rattle.reg_world.specs.declared.event.Event.TheVariants as events
use Rattle.reg_world.specs.declared.event.Fate.{Fate}
use Rattle.reg_world.specs.declared.event.Outcome.{Outcome}
use Rattle.reg_world.specs.declared.event.Outcome.TheVariants as outcomes
use Rattle.reg_existence.specs.Events.{EventsAreSingle, ListsOfEventsAreSingle}

-- two outcomes and states are the same
abbrev AreSame : (o other : Outcome) (t u : State) → Type 0
AreSame o other t u = (o ≡ other) × (t ≡ u)

both : (o other x : Outcome) (t u y : State) → (o ≡ x) × (t ≡ y) → (other ≡ x) × (u ≡ y) → AreSame o other t u
both o other x t u y one two = (one.0 ∙ sym two.0, one.1 ∙ sym two.1)

-- what happens where the sets have one floor, or not
abbrev WhereAllowed : Bool → State → Event → Outcome → State → Type 0
WhereAllowed b s e o t = MatchBool b (Does s e o t) ((o ≡ outcomes.FloorsDiffer) × (t ≡ s))

opened : (s t : State) (e : Event) (o : Outcome) (b c : Bool) → is_allowed s e ≡ b → floors_agree s e ≡ c
    → Happens s e o t → MatchBool b (WhereAllowed c s e o t) ((o ≡ outcomes.NotAllowed) × (t ≡ s))
unfolding Happens
opened s t e o b c is agree happens =
    subst (λ x. MatchBool x (WhereAllowed c s e o t) ((o ≡ outcomes.NotAllowed) × (t ≡ s))) is
    (subst (λ x. MatchBool (is_allowed s e) (WhereAllowed x s e o t) ((o ≡ outcomes.NotAllowed) × (t ≡ s))) agree happens)

module _ (steps : StepsAreSingle) (answers : HaveOneAnswer) where
  one_step : (s : State) (command : Command) (fate : Fate) (o other : Outcome) (t u : State)
      → Steps s command fate o t → Steps s command fate other u → AreSame o other t u
  one_step s command fate o other t u a b =
      let (replies, batches) = steps (registry_of (topic_of s)) (topic_of s).next command a.reply b.reply a.batch b.batch a.step b.step in (
        a.outcome ∙ ap outcomes.Replied (ap₂ (told fate) replies batches) ∙ sym b.outcome,
        a.state ∙ ap (with_batch s fate command) batches ∙ sym b.state,
      )

  does_one : (s : State) (e : Event) (o other : Outcome) (t u : State) → Does s e o t → Does s e other u → AreSame o other t u
  does_one s (events.Command node command fate) o other t u a b = one_step (settled s) command fate o other t u a b
  does_one s (events.Compact dropped) o other t u a b = both o other _ t u _ a b
  does_one s (events.CompactTo floor dropped) o other t u a b = both o other _ t u _ a b
  does_one s (events.Take node records) o other t u a b = both o other _ t u _ a b
  does_one s (events.CompactNode node) o other t u a b = both o other _ t u _ a b
  does_one s (events.MergeFrom node from) o other t u a b = both o other _ t u _ a b
  does_one s (events.Rebase node) o other t u a b = both o other _ t u _ a b
  does_one s (events.Restart node) o other t u a b = both o other _ t u _ a b
  does_one s (events.Lookup node query) o other t u (answer, is, outcome, state) (found, is_found, told_other, stays) =
      let same = answers (last_records (set_at s node).records) query answer found is is_found in
      (outcome ∙ ap outcomes.Answered same ∙ sym told_other, state ∙ sym stays)

  by_permit : (s : State) (e : Event) (o other : Outcome) (t u : State) (b c : Bool) → is_allowed s e ≡ b
      → floors_agree s e ≡ c → Happens s e o t → Happens s e other u → AreSame o other t u
  by_permit s e o other t u true true is agree one two =
      does_one s e o other t u (opened s t e o true true is agree one) (opened s u e other true true is agree two)
  by_permit s e o other t u true false is agree one two =
      both o other outcomes.FloorsDiffer t u s (opened s t e o true false is agree one) (opened s u e other true false is agree two)
  by_permit s e o other t u false c is agree one two =
      both o other outcomes.NotAllowed t u s (opened s t e o false c is agree one) (opened s u e other false c is agree two)

  pub events_are_single : EventsAreSingle
  events_are_single s e o other t u one two = by_permit s e o other t u (is_allowed s e) (floors_agree s e) refl refl one two

  pub lists_of_events_are_single : ListsOfEventsAreSingle
  lists_of_events_are_single s [] [] [] t u one two = (refl, one ∙ sym two)
  lists_of_events_are_single s [] (o ∷ os) others t u one two = absurd one
  lists_of_events_are_single s [] [] (other ∷ others) t u one two = absurd two
  lists_of_events_are_single s (e ∷ es) [] others t u one two = absurd one
  lists_of_events_are_single s (e ∷ es) (o ∷ os) [] t u one two = absurd two
  lists_of_events_are_single s (e ∷ es) (o ∷ os) (other ∷ others) t u (mid, happens, runs) (between, happens_too, runs_too) =
      let (first, states) = events_are_single s e o other mid between happens happens_too in
      let (rest, ends) = lists_of_events_are_single mid es os others t u runs (subst (λ m. Runs m es others u) (sym states) runs_too) in
      (ap₂ (λ x xs. x ∷ xs) first rest, ends)
