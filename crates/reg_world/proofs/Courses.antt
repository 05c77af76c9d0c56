-- Lists of events, one event after the other.
use Rattle.std.proofs.Common.{◌≡◌, ◌≤◌, ◌<◌, ◌+◌, ℕ, List, [], ◌∷◌, ◌++◌, Result, Ok, Err, IfOk}
use Rattle.std.proofs.Common.{OnErr, length, get_or, take, refl, sym, ap, subst, ◌∙◌}
use Rattle.std.proofs.lemmas.List.{take_more}
use Rattle.std.specs.declared.alloc.AllocError.{AllocError}
use Rattle.reg_topic.specs.Topic.{IsAdopted}
use Rattle.reg_topic.specs.declared.topic.Topic.{Topic}
use Rattle.reg_world.specs.Happens.{Happens}
use Rattle.reg_world.specs.Headline.{IsReached}
use Rattle.reg_world.specs.Runs.{IsStopped, Runs}
use Rattle.reg_world.specs.State.{State, start}
use Rattle.reg_world.specs.declared.event.Event.{Event}
use Rattle.reg_world.specs.declared.event.Outcome.{Outcome}
use Rattle.reg_world.specs.declared.world.RunError.TheVariants.{OutOfMemory}

pub runs_more : (s t u : State) (es : List Event) (os : List Outcome) (e : Event) (o : Outcome)
    → Runs s es os t → Happens t e o u → Runs s (es ++ e ∷ []) (os ++ o ∷ []) u
runs_more s t u [] [] e o same happens = (u, subst (λ x. Happens x e o u) same happens, refl)
runs_more s t u [] (p ∷ os) e o run happens = absurd run
runs_more s t u (f ∷ es) [] e o run happens = absurd run
runs_more s t u (f ∷ es) (p ∷ os) e o run happens = (run.0, run.1, runs_more run.0 t u es os e o run.2 happens)

pub one_more : (s t u : State) (es : List Event) (os : List Outcome) (i : ℕ) (e : Event) (o : Outcome) → i < length es
    → e ≡ get_or es i e → Runs s (take i es) os t → Happens t e o u → Runs s (take (i + 1) es) (os ++ o ∷ []) u
one_more s t u es os i e o within is run happens =
    subst (λ l. Runs s l (os ++ o ∷ []) u) (sym (take_more es i e within ∙ ap (λ x. take i es ++ x ∷ []) (sym is)))
    (runs_more s t u (take i es) os e o run happens)

pub stops : (s t : State) (es : List Event) (os : List Outcome) (i done : ℕ) → i ≡ done
    → i ≤ length es → Runs s (take i es) os t → IsStopped s es (OutOfMemory done) t
stops s t es os i done same within run = (subst (λ k. k ≤ length es) same within, (os, subst (λ k. Runs s (take k es) os t) same run))

pub reached_at_start : (base : Topic) (count : ℕ) → IsAdopted base → IsReached (start base count)
reached_at_start base count adopted = ([], record { base = base; adopted = adopted; count = count; outcomes = []; run = refl })

pub reached_more : (s t : State) (e : Event) (o : Outcome) → Happens s e o t → IsReached s → IsReached t
reached_more s t e o happens (es, a) = (
  es ++ e ∷ [],
  record {
    base = a.base;
    adopted = a.adopted;
    count = a.count;
    outcomes = a.outcomes ++ o ∷ [];
    run = runs_more (start a.base a.count) s t es a.outcomes e o a.run happens;
  },
)

-- a step that is refused leaves all as it was
pub reached_after : (s t : State) (e : Event) (r : Result Outcome AllocError)
    → IfOk r (λ o. Happens s e o t) → OnErr r (t ≡ s) → IsReached s → IsReached t
reached_after s t e (Ok o) happens same h = reached_more s t e o happens h
reached_after s t e (Err refused) happens same h = subst IsReached (sym same) h
