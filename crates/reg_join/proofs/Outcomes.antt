-- What comes of a command, by the chain's answer, and of a batch that is due.
use Rattle.std.proofs.Common.{◌≡◌, ◌⊎◌, inl, inr, List, [], ◌∷◌, ◌++◌, refl, sym, ap, subst, ◌∙◌}
use Rattle.reg_records.specs.declared.record.Record.{Record}
use Rattle.reg_leader.specs.declared.command.Command.{Command}
use Rattle.reg_leader.specs.declared.reply.Reply.{Reply}
use Rattle.reg_leader.specs.declared.reply.Reply.TheVariants as replies
use Rattle.reg_topic.specs.declared.published.Item.{Item}
use Rattle.reg_topic.specs.declared.published.Item.TheVariants as items
use Rattle.reg_topic.specs.declared.topic.Topic.{Topic}
use Rattle.reg_pen.specs.Pen.{Acts, Follows, IsStepAfter, PenState, StillPends, item_of, settled}
use Rattle.reg_pen.specs.declared.keep.Kept.{Kept}
use Rattle.reg_pen.specs.declared.keep.Kept.TheVariants.{Taken, Declined, Lost, Unknown}
use Rattle.reg_chain.specs.Chain.{told_after}
use Rattle.reg_join.specs.Joined.{DueBatchesAreTaken, IsJoined, IsNoOutcome, OutcomesStandInChain, StandsInChain, TakesDue, WroteNothing, batches_in, batches_of}
use Rattle.reg_join.specs.Joining.{AreTakenAt, Asks, JoinKeeps, KeepsAt, kept_of}
use Rattle.reg_chain.specs.declared.chain.ChainAnswer.{ChainAnswer}
use Rattle.reg_chain.specs.declared.chain.ChainAnswer.TheVariants as answered
use Rattle.reg_join.specs.declared.join_keep.JoinKeep.{JoinKeep}
use Rattle.reg_join.specs.declared.join_keep.Stand.{Stand}
use Rattle.reg_join.specs.declared.join_keep.Stand.TheVariants.{Level, Due, Stopped}
use Rattle.reg_join.proofs.Following.{batches_both}
use Rattle.reg_join.proofs.Standing.{none_pending}

module _ {C : Type 0} (told : C → List (List Record)) (answers : C → List Record → ChainAnswer → C → Type 0) (base : Topic) where
  -- a batch is taken only where the chain kept it
  was_kept : (answer : ChainAnswer) → Taken ≡ kept_of answer → answer ≡ answered.Kept
  was_kept answered.Kept e = refl
  was_kept answered.Behind e = absurd (cc e)
  was_kept answered.Declined e = absurd (cc e)
  was_kept answered.Unknown e = absurd (cc e)

  still_none : (m : PenState (JoinKeep C)) (c : Command) (pending : List Item) (reply : Reply) → StillPends pending reply
      → IsNoOutcome told answers base m c reply
  still_none m c [] reply h = absurd h
  still_none m c (items.Commit commit ∷ []) reply h = inr (inl (h.0.offset, h.3))
  still_none m c (items.Compaction d ∷ []) reply h = inl h
  still_none m c (items.Commit commit ∷ j ∷ is) reply h = absurd h
  still_none m c (items.Compaction d ∷ j ∷ is) reply h = absurd h

  abbrev Outcome : PenState (JoinKeep C) → Command → Reply → PenState (JoinKeep C) → Type 0
  Outcome l c reply m = WroteNothing told answers base l c reply ⊎ StandsInChain told answers base l c reply m ⊎ IsNoOutcome told answers base m c reply

  stood : (l : PenState (JoinKeep C)) (c : Command) (replied reply : Reply) (first : Record) (rest : List Record) (keep : JoinKeep C)
      (m : PenState (JoinKeep C)) → told l.keep.chain ≡ batches_of l
      → IsStepAfter base (l.published ++ l.pending) c replied (first ∷ rest)
      → Asks told answers l.keep (first ∷ rest) Taken keep → reply ≡ replied → m.keep ≡ keep
      → StandsInChain told answers base l c reply m
  stood l c replied reply first rest keep m before step asks same kept = record {
    first = first;
    rest = rest;
    before = before;
    step = subst (λ (r : Reply). IsStepAfter base (l.published ++ l.pending) c r (first ∷ rest)) (sym same) step;
    kept = subst (λ (k : JoinKeep C). answers l.keep.chain (first ∷ rest) answered.Kept k.chain) (sym kept)
        (subst (λ (a : ChainAnswer). answers l.keep.chain (first ∷ rest) a keep.chain) (was_kept asks.answer asks.becomes) asks.means);
    stands = ap (λ (k : JoinKeep C). told k.chain) kept
        ∙ (asks.tells ∙ (ap (λ (a : ChainAnswer). told_after (told l.keep.chain) (first ∷ rest) a) (was_kept asks.answer asks.becomes)
        ∙ ap (λ (bs : List (List Record)). bs ++ (first ∷ rest) ∷ []) before));
  }

  followed : (kept : Kept) (l : PenState (JoinKeep C)) (c : Command) (replied reply : Reply) (first : Record) (rest : List Record)
      (keep : JoinKeep C) (m : PenState (JoinKeep C)) → told l.keep.chain ≡ batches_of l
      → IsStepAfter base (l.published ++ l.pending) c replied (first ∷ rest)
      → JoinKeeps told answers l.keep (first ∷ rest) kept keep → Asks told answers l.keep (first ∷ rest) kept keep
      → Follows kept (item_of c (first ∷ rest)) replied (replies.Unsettled first.offset) (record (settled l) { keep = keep }) reply m
      → Outcome l c reply m
  followed Taken l c replied reply first rest keep m before step lent asks (inl done) =
      inr (inl (stood l c replied reply first rest keep m before step asks done.0 (ap (λ (s : PenState (JoinKeep C)). s.keep) done.1)))
  followed Taken l c replied reply first rest keep m before step lent asks (inr left) = inr (inr (inr (inl (first.offset, left.0))))
  followed (Declined lack) l c replied reply first rest keep m before step lent asks h =
      let same : m.published ≡ l.published ++ l.pending = ap (λ (s : PenState (JoinKeep C)). s.published) h.1 in
      inr (inr (inr (inr (record {
        replied = replied;
        first = first;
        rest = rest;
        step = subst (λ (w : List Item). IsStepAfter base w c replied (first ∷ rest)) (sym same) step;
        lack = lack;
        keep = l.keep;
        keep' = keep;
        lent = lent;
        told = h.0;
      }))))
  followed Lost l c replied reply first rest keep m before step lent asks h = inr (inr (inr (inl (first.offset, h.0))))
  followed Unknown l c replied reply first rest keep m before step lent asks h = inr (inr (inr (inl (first.offset, h.0))))

  acted : (l : PenState (JoinKeep C)) (c : Command) (reply : Reply) (m : PenState (JoinKeep C)) → told l.keep.chain ≡ batches_of l
      → l.keep.stand ≡ Level → Acts (JoinKeeps told answers) base (settled l) c reply m → Outcome l c reply m
  acted l c reply m before level (inl none) = inl (record { before = before; step = none.0 })
  acted l c reply m before level (inr (inl lends)) =
      followed lends.kept l c lends.replied reply lends.first lends.rest lends.keep m before lends.step lends.lent
      (subst (λ (s : Stand). KeepsAt told answers s l.keep (lends.first ∷ lends.rest) lends.kept lends.keep) level lends.lent) lends.follows
  acted l c reply m before level (inr (inr none)) = inr (inr (inl none.0))

  -- all that was told is in the pen
  all_told : (l : PenState (JoinKeep C)) → IsJoined told l → l.keep.stand ≡ Level → told l.keep.chain ≡ batches_of l
  all_told l joined level = subst (λ (s : Stand). AreTakenAt told s (told l.keep.chain) (batches_of l)) level joined.taken

  -- Batches that are due.
  as_before : (l m : PenState (JoinKeep C)) (due : List Record) → m ≡ l → TakesDue l due m
  as_before l m due same = inr (inl (ap (λ (s : PenState (JoinKeep C)). s.keep) same, ap (λ (s : PenState (JoinKeep C)). batches_of s) same))

  as_settled : (l m : PenState (JoinKeep C)) (due : List Record) → m ≡ settled l → TakesDue l due m
  as_settled l m due same = inr (inl (
    ap (λ (s : PenState (JoinKeep C)). s.keep) same,
    ap (λ (s : PenState (JoinKeep C)). batches_of s) same ∙ none_pending (l.published ++ l.pending),
  ))

  -- one batch more
  one_more : (is : List Item) (c : Command) (first : Record) (rest due : List Record) → first ∷ rest ≡ due
      → batches_in (is ++ item_of c (first ∷ rest)) ≡ batches_in is ++ due ∷ []
  one_more is c first rest due same =
      batches_both is (item_of c (first ∷ rest)) ∙ ap (λ (b : List Record). batches_in is ++ b ∷ []) same

  taken : (l : PenState (JoinKeep C)) (c : Command) (replied unsettled reply : Reply) (first : Record) (rest due : List Record)
      (keep : JoinKeep C) (m : PenState (JoinKeep C)) → first ∷ rest ≡ due → keep ≡ record l.keep { stand = Level }
      → Follows Taken (item_of c (first ∷ rest)) replied unsettled (record (settled l) { keep = keep }) reply m → TakesDue l due m
  taken l c replied unsettled reply first rest due keep m same level (inl done) = inl (
    ap (λ (s : PenState (JoinKeep C)). s.keep) done.1 ∙ level,
    ap (λ (s : PenState (JoinKeep C)). batches_of s) done.1
        ∙ (none_pending ((l.published ++ l.pending) ++ item_of c (first ∷ rest)) ∙ one_more (l.published ++ l.pending) c first rest due same),
  )
  taken l c replied unsettled reply first rest due keep m same level (inr left) = inl (
    ap (λ (s : PenState (JoinKeep C)). s.keep) left.1 ∙ level,
    ap (λ (s : PenState (JoinKeep C)). batches_of s) left.1 ∙ one_more (l.published ++ l.pending) c first rest due same,
  )

  stopped : (l : PenState (JoinKeep C)) (due : List Record) (keep : JoinKeep C) (m : PenState (JoinKeep C))
      → keep ≡ record l.keep { stand = Stopped } → m ≡ record (settled l) { keep = keep } → TakesDue l due m
  stopped l due keep m is same = inr (inr (
    ap (λ (s : PenState (JoinKeep C)). s.keep) same ∙ is,
    ap (λ (s : PenState (JoinKeep C)). batches_of s) same ∙ none_pending (l.published ++ l.pending),
  ))

  lent_due : (l : PenState (JoinKeep C)) (c : Command) (replied unsettled reply : Reply) (first : Record) (rest due : List Record) (kept : Kept)
      (keep : JoinKeep C) (m : PenState (JoinKeep C)) → KeepsAt told answers (Due due) l.keep (first ∷ rest) kept keep
      → Follows kept (item_of c (first ∷ rest)) replied unsettled (record (settled l) { keep = keep }) reply m → TakesDue l due m
  lent_due l c replied unsettled reply first rest due kept keep m (inl is) follows =
      taken l c replied unsettled reply first rest due keep m is.0 is.2
      (subst (λ (w : Kept). Follows w (item_of c (first ∷ rest)) replied unsettled (record (settled l) { keep = keep }) reply m) is.1 follows)
  lent_due l c replied unsettled reply first rest due kept keep m (inr other) follows =
      stopped l due keep m other.2
      (subst (λ (w : Kept). Follows w (item_of c (first ∷ rest)) replied unsettled (record (settled l) { keep = keep }) reply m) other.1 follows).1

  acted_due : (l : PenState (JoinKeep C)) (c : Command) (reply : Reply) (m : PenState (JoinKeep C)) (due : List Record)
      → l.keep.stand ≡ Due due → Acts (JoinKeeps told answers) base (settled l) c reply m → TakesDue l due m
  acted_due l c reply m due here (inl none) = as_settled l m due none.1
  acted_due l c reply m due here (inr (inl lends)) =
      lent_due l c lends.replied (replies.Unsettled lends.first.offset) reply lends.first lends.rest due lends.kept lends.keep m
      (subst (λ (s : Stand). KeepsAt told answers s l.keep (lends.first ∷ lends.rest) lends.kept lends.keep) here lends.lent) lends.follows
  acted_due l c reply m due here (inr (inr none)) = as_settled l m due none.1

module _ {C : Type 0} (told : C → List (List Record)) (answers : C → List Record → ChainAnswer → C → Type 0) where
  pub outcomes : OutcomesStandInChain told answers
  outcomes base since l c reply m (inl ahead) joined level = inr (inr (inl ahead.1))
  outcomes base since l c reply m (inr (behind, inl still)) joined level = inr (inr (still_none told answers base m c l.pending reply still.0))
  outcomes base since l c reply m (inr (behind, inr acts)) joined level =
      acted told answers base l c reply m (all_told told answers base l joined level) level acts.1

  pub dues : DueBatchesAreTaken told answers
  dues base since l c reply m due (inl ahead) here = as_before told answers base l m due ahead.2
  dues base since l c reply m due (inr (behind, inl still)) here = as_before told answers base l m due still.1
  dues base since l c reply m due (inr (behind, inr acts)) here = acted_due told answers base l c reply m due here acts.1
