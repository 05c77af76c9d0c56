-- The command that writes a batch that is due, if any does.
use Rattle.std.proofs.Common.{◌≡◌, ◌≢◌, ◌⊎◌, inl, inr, false, List, [], ◌∷◌, ◌++◌, Option, Some, None, unwrap_or, option_map, refl, sym, ap, subst, ◌∙◌, append-nil, true≢false}
use Rattle.std.specs.Option.{option_or}
use Rattle.std.specs.Borrow.{Bor}
use Rattle.reg_records.specs.declared.record.Record.{Record}
use Rattle.reg_set.specs.Records.{Records}
use Rattle.reg_fold.specs.GiveAlike.{GiveAlike}
use Rattle.reg_fold.specs.InForce.{Scope}
use Rattle.reg_modes.specs.InForce.{mode}
use Rattle.reg_modes.specs.Mode.{standing_mode}
use Rattle.reg_modes.specs.declared.mode.Mode.{Mode}
use Rattle.reg_modes.specs.declared.mode.Mode.TheVariants.{Readwrite}
use Rattle.reg_leader.specs.OneStep.{StepsAreSingle}
use Rattle.reg_leader.specs.declared.command.Command.{Command}
use Rattle.reg_leader.specs.declared.reply.Reply.{Reply}
use Rattle.reg_replay.specs.Candidate.{candidate}
use Rattle.reg_replay.specs.Complete.{BatchesAreOfCandidates}
use Rattle.reg_topic.specs.Topic.{MayCommit, after_items, registry_of}
use Rattle.reg_topic.specs.declared.published.Item.{Item}
use Rattle.reg_topic.specs.declared.topic.Topic.{Topic}
use Rattle.reg_pen.specs.Pen.{Acts, Follows, IsNoMemory, IsStepAfter, PenState, StillPends, Submits, item_of, settled}
use Rattle.reg_pen.specs.Writing.{SubmitsAndCompacts}
use Rattle.reg_pen.specs.declared.keep.Kept.{Kept}
use Rattle.reg_chain.specs.declared.chain.ChainAnswer.{ChainAnswer}
use Rattle.reg_join.specs.Joined.{IsJoined, TakesDue, batches_of}
use Rattle.reg_join.specs.Joining.{JoinKeeps, KeepsAt}
use Rattle.reg_join.specs.Memory.{is_no_memory}
use Rattle.reg_join.specs.Taking.{IsCandidate, IsNobodys, StopsAtNobodys}
use Rattle.reg_join.specs.declared.join_keep.JoinKeep.{JoinKeep}
use Rattle.reg_join.specs.declared.join_keep.Stand.{Stand}
use Rattle.reg_join.specs.declared.join_keep.Stand.TheVariants.{Level, Due, Stopped}
use Rattle.reg_join.proofs.Nobodys.{stops_at}
use Rattle.reg_join.proofs.Levels.{same_keep}
use Rattle.reg_join.proofs.TakingIn.{compacted_after, due_is_taken, was_left, was_stopped}

-- Sets that give the same have the same candidates.
module _ (rs ss : Records) (alike : GiveAlike rs ss) where
  open alike use {modes_alike}

  same_modes : mode rs ≡ mode ss
  same_modes = λ i scope.
      unwrap_or (option_or (option_map standing_mode (modes_alike scope i)) (option_map standing_mode (modes_alike None i))) Readwrite

  same_candidate : (batch : List Record) → candidate (mode rs) batch ≡ candidate (mode ss) batch
  same_candidate batch = ap (λ (m : Scope → Mode). candidate m batch) same_modes

module _ (law : BatchesAreOfCandidates) (base : Topic) (is : List Item) (rs : Records)
    (alike : GiveAlike rs (registry_of (after_items base is))) where
  -- the candidate of a batch that a command writes
  written : (batch : List Record) (c : Command) → MayCommit (after_items base is) (record { command = c; batch = batch })
      → (d : Command) × (candidate (mode rs) batch ≡ Some d) × MayCommit (after_items base is) (record { command = d; batch = batch })
  written [] c may = absurd (may.writes refl)
  written (r ∷ more) c may =
      let w = law (after_items base is).log (after_items base is).next c r more (may.reply, may.step) in (
        w.0,
        same_candidate rs (registry_of (after_items base is)) alike (r ∷ more) ∙ w.1,
        record { reply = w.2.0; step = w.2.1; writes = may.writes },
      )

  candidate_writes : (batch : List Record) (d : Command) → candidate (mode rs) batch ≡ Some d → IsCandidate base is d batch
  candidate_writes batch d found c may =
      let w = written batch c may in
      let same : w.0 ≡ d = cc in
      subst (λ (e : Command). MayCommit (after_items base is) (record { command = e; batch = batch })) same w.2

  none_writes : (batch : List Record) → candidate (mode rs) batch ≡ None → IsNobodys base is batch
  none_writes batch none c may = let w = written batch c may in absurd (cc)

-- so of what is told next, where nothing is pending
module _ (law : BatchesAreOfCandidates) (base : Topic) (published pending : List Item) (clear : pending ≡ []) (rs : Records)
    (alike : GiveAlike rs (registry_of (after_items base published))) where
  whole : published ≡ published ++ pending
  whole = sym (ap (λ (is : List Item). published ++ is) clear ∙ append-nil published)

  pub candidate_told : (batch : List Record) (d : Command) → candidate (mode rs) batch ≡ Some d → IsCandidate base (published ++ pending) d batch
  candidate_told batch d found =
      subst (λ (is : List Item). IsCandidate base is d batch) whole (candidate_writes law base published rs alike batch d found)

  pub none_told : (batch : List Record) → candidate (mode rs) batch ≡ None → IsNobodys base (published ++ pending) batch
  none_told batch none =
      subst (λ (is : List Item). IsNobodys base is batch) whole (none_writes law base published rs alike batch none)

-- the step writes another batch, or none
record WritesOther (base : Topic) (is : List Item) (c : Command) (due : List Record) : Type 0 where
  replied : Reply
  batch : List Record
  step : IsStepAfter base is c replied batch
  other : (batch ≡ []) ⊎ (batch ≢ due)

other_writes : (due batch : List Record) → due ≢ [] → (batch ≡ []) ⊎ (batch ≢ due) → due ≡ batch → ⊥
other_writes due batch some (inl none) same = some (same ∙ none)
other_writes due batch some (inr other) same = other (sym same)

-- so nobody's writes it
nobody_writes : StepsAreSingle → (base : Topic) (is : List Item) (c : Command) (due : List Record) → IsCandidate base is c due
    → WritesOther base is c due → IsNobodys base is due
nobody_writes single base is c due candidate writes d may =
    let own = candidate d may in
    other_writes due writes.batch own.writes writes.other
    (single (registry_of (after_items base is)) (after_items base is).next c own.reply writes.replied due writes.batch own.step writes.step).1

module _ {C : Type 0} (told : C → List (List Record)) (answers : C → List Record → ChainAnswer → C → Type 0) (base : Topic)
    (since : Option (Bor (List Item))) (l : PenState (JoinKeep C)) (c : Command) (reply : Reply) (due : List Record)
    (here : l.keep.stand ≡ Due due) where
  -- what a submit comes to where a batch is due: memory was refused, or the batch is taken, or the step writes another one, or none
  abbrev Comes : JoinKeep C → Type 0
  Comes k = (IsNoMemory reply × (k ≡ l.keep)) ⊎ (k.stand ≡ Level) ⊎ WritesOther base (l.published ++ l.pending) c due

  lent : (replied unsettled : Reply) (first : Record) (rest : List Record) (kept : Kept) (keep : JoinKeep C) (m : PenState (JoinKeep C))
      → IsStepAfter base (l.published ++ l.pending) c replied (first ∷ rest)
      → KeepsAt told answers (Due due) l.keep (first ∷ rest) kept keep
      → Follows kept (item_of c (first ∷ rest)) replied unsettled (record (settled l) { keep = keep }) reply m → Comes m.keep
  lent replied unsettled first rest kept keep m step (inl is) follows =
      inr (inl (ap (λ (k : JoinKeep C). k.stand) (same_keep kept (item_of c (first ∷ rest)) replied unsettled (record (settled l) { keep = keep }) reply m
      follows ∙ is.2)))
  lent replied unsettled first rest kept keep m step (inr other) follows =
      inr (inr (record { replied = replied; batch = first ∷ rest; step = step; other = inr other.0 }))

  acted : (m : PenState (JoinKeep C)) → Acts (JoinKeeps told answers) base (settled l) c reply m → Comes m.keep
  acted m (inl none) = inr (inr (record { replied = reply; batch = []; step = none.0; other = inl refl }))
  acted m (inr (inl lends)) =
      lent lends.replied _ lends.first lends.rest lends.kept lends.keep m lends.step
      (subst (λ (s : Stand). KeepsAt told answers s l.keep (lends.first ∷ lends.rest) lends.kept lends.keep) here lends.lent) lends.follows
  acted m (inr (inr none)) = inl (none.0, ap (λ (s : PenState (JoinKeep C)). s.keep) none.1)

  none_pends : (pending : List Item) → pending ≡ [] → StillPends pending reply → ⊥
  none_pends pending clear still = let h : StillPends [] reply = subst (λ (is : List Item). StillPends is reply) clear still in absurd h

  submitted : l.pending ≡ [] → (m : PenState (JoinKeep C)) → Submits (JoinKeeps told answers) base since l c reply m → Comes m.keep
  submitted clear m (inl ahead) = inl (ahead.1, ap (λ (s : PenState (JoinKeep C)). s.keep) ahead.2)
  submitted clear m (inr (behind, inl still)) = absurd (none_pends l.pending clear still.0)
  submitted clear m (inr (behind, inr acts)) = acted m acts.1

  module _ (m : PenState (JoinKeep C)) (seen : List Item) (clear : l.pending ≡ [])
      (done : SubmitsAndCompacts (JoinKeeps told answers) base since l c reply seen m) where
    comes : Comes m.keep
    comes = subst Comes (sym (compacted_after told answers base since l m c reply seen done).keep) (submitted clear done.submitted done.submits)

    stopped_for : Comes m.keep → m.keep.stand ≡ Stopped → WritesOther base (l.published ++ l.pending) c due
    stopped_for (inl none) stopped = absurd (cc (sym here ∙ (sym (ap (λ (k : JoinKeep C). k.stand) none.1) ∙ stopped)))
    stopped_for (inr (inl level)) stopped = absurd (cc (sym level ∙ stopped))
    stopped_for (inr (inr other)) stopped = other

    left_for : Comes m.keep → (left : List Record) → m.keep.stand ≡ Due left → is_no_memory reply ≡ false
        → WritesOther base (l.published ++ l.pending) c due
    left_for (inl none) left still some = absurd (true≢false (sym (ap is_no_memory none.0) ∙ some))
    left_for (inr (inl level)) left still some = absurd (cc (sym level ∙ still))
    left_for (inr (inr other)) left still some = other

    same_chain : TakesDue l due m → m.keep.chain ≡ l.keep.chain
    same_chain (inl taken) = ap (λ (k : JoinKeep C). k.chain) taken.0
    same_chain (inr (inl same)) = ap (λ (k : JoinKeep C). k.chain) same.0
    same_chain (inr (inr stopped)) = ap (λ (k : JoinKeep C). k.chain) stopped.0

    taken : TakesDue l due m
    taken = due_is_taken told answers base since l m c reply seen due done here

    module _ (single : StepsAreSingle) (own : IsCandidate base (l.published ++ l.pending) c due) (joined : IsJoined told l) where
      -- where the keep is stopped then
      pub stopped_at_nobodys : m.keep.stand ≡ Stopped → StopsAtNobodys told base m
      stopped_at_nobodys stopped =
          stops_at told base l m due here
          (nobody_writes single base (l.published ++ l.pending) c due own (stopped_for comes stopped)) joined (same_chain taken)
          (was_stopped l m due here taken stopped).1

      -- where a batch is due still, and memory wasn't refused, and it is stopped after that
      pub left_at_nobodys : (left : List Record) → m.keep.stand ≡ Due left → is_no_memory reply ≡ false → (n : PenState (JoinKeep C))
          → n.keep ≡ record m.keep { stand = Stopped } → batches_of n ≡ batches_of m → StopsAtNobodys told base n
      left_at_nobodys left still some n keep same =
          stops_at told base l n due here
          (nobody_writes single base (l.published ++ l.pending) c due own (left_for comes left still some)) joined
          (ap (λ (k : JoinKeep C). k.chain) keep ∙ same_chain taken) (same ∙ was_left l m due here left taken still)
