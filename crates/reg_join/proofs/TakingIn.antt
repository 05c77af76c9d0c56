-- What comes of a batch that is due.
use Rattle.std.proofs.Common.{◌≡◌, inl, inr, ℕ, Bool, true, false, List, ◌∷◌, [], ◌++◌, Option, MatchBool, sym, ap, subst, ◌∙◌, append-nil, append_assoc}
use Rattle.std.specs.Borrow.{Bor}
use mathlib.Core.List.{IsPrefix}
use Rattle.reg_records.specs.declared.record.Record.{Record}
use Rattle.reg_leader.specs.declared.command.Command.{Command}
use Rattle.reg_leader.specs.declared.reply.Reply.{Reply}
use Rattle.reg_topic.specs.declared.published.Item.{Item}
use Rattle.reg_topic.specs.declared.topic.Topic.{Topic}
use Rattle.reg_pen.specs.Deletes.{floor_due}
use Rattle.reg_pen.specs.Pen.{CompactsOrNot, PenState, batches, settled}
use Rattle.reg_pen.specs.Writing.{SubmitsAndCompacts, passes_multiple}
use Rattle.reg_join.specs.Joined.{IsJoined, TakesDue, batches_of}
use Rattle.reg_join.specs.Joining.{AreTakenAt, IsNotAsked, JoinKeeps, KeepsTaken}
use Rattle.reg_join.specs.Taking.{GoesOn, Takes, TellsTaken}
use Rattle.reg_chain.specs.declared.chain.ChainAnswer.{ChainAnswer}
use Rattle.reg_join.specs.declared.join_keep.JoinKeep.{JoinKeep}
use Rattle.reg_join.specs.declared.join_keep.Stand.{Stand}
use Rattle.reg_join.specs.declared.join_keep.Stand.TheVariants.{Level, Due, Stopped}
use Rattle.reg_join.specs.declared.taking.TakenIn.{TakenIn}
use Rattle.reg_join.specs.declared.taking.TakenIn.TheVariants as takens
use Rattle.reg_join.proofs.Following.{stay_joined}
use Rattle.reg_join.proofs.Outcomes.{dues}
use Rattle.reg_join.proofs.Standing.{IsSame, compacted, itself, none_pending, same_joined, still_joined}

pub prefix_trans : {A : Type 0} (xs ys zs : List A) → IsPrefix xs ys → IsPrefix ys zs → IsPrefix xs zs
prefix_trans xs ys zs p q = (p.0 ++ q.0, sym (append_assoc xs p.0 q.0) ∙ (ap (λ w. w ++ q.0) p.1 ∙ q.1))

module _ {C : Type 0} where
  not_asked : (k k' : JoinKeep C) → k' ≡ k → IsNotAsked k k'
  not_asked k k' same = record { last = ap (λ (j : JoinKeep C). j.last) same; kept = ap (λ (j : JoinKeep C). j.kept) same }

  not_asked_then : (k k' k'' : JoinKeep C) → IsNotAsked k k' → IsNotAsked k' k'' → IsNotAsked k k''
  not_asked_then k k' k'' before after = record { last = after.last ∙ before.last; kept = after.kept ∙ before.kept }

  -- how it stands aside
  stands_otherwise : (k k' : JoinKeep C) (stand : Stand) → k' ≡ record k { stand = stand } → IsNotAsked k k'
  stands_otherwise k k' stand same = record { last = ap (λ (j : JoinKeep C). j.last) same; kept = ap (λ (j : JoinKeep C). j.kept) same }

module _ {C : Type 0} (told : C → List (List Record)) where
  pub goes_on_itself : (l m : PenState (JoinKeep C)) → m ≡ l → GoesOn told l m
  goes_on_itself l m same = record {
    joined = λ joined. subst (λ (n : PenState (JoinKeep C)). IsJoined told n) (sym same) joined;
    grows = ([], append-nil l.published ∙ sym (ap (λ (s : PenState (JoinKeep C)). s.published) same));
    own = not_asked l.keep m.keep (ap (λ (s : PenState (JoinKeep C)). s.keep) same);
  }

  pub goes_on_then : (l k m : PenState (JoinKeep C)) → GoesOn told l k → GoesOn told k m → GoesOn told l m
  goes_on_then l k m before after = record {
    joined = λ joined. after.joined (before.joined joined);
    grows = prefix_trans l.published k.published m.published before.grows after.grows;
    own = not_asked_then l.keep k.keep m.keep before.own after.own;
  }

  -- what is pending was published
  pub settled_goes_on : (l m : PenState (JoinKeep C)) → m ≡ settled l → GoesOn told l m
  settled_goes_on l m same = record {
    joined = still_joined told l m (ap (λ (s : PenState (JoinKeep C)). s.lost) same)
        (ap (λ (s : PenState (JoinKeep C)). batches_of s) same ∙ none_pending (l.published ++ l.pending))
        (λ taken h. subst (λ (k : JoinKeep C). AreTakenAt told k.stand (told k.chain) taken) (sym (ap (λ (s : PenState (JoinKeep C)). s.keep) same)) h);
    grows = (l.pending, sym (ap (λ (s : PenState (JoinKeep C)). s.published) same));
    own = not_asked l.keep m.keep (ap (λ (s : PenState (JoinKeep C)). s.keep) same);
  }

  pub settled_batches : (l m : PenState (JoinKeep C)) → m ≡ settled l → batches_of m ≡ batches_of l
  settled_batches l m same = ap (λ (s : PenState (JoinKeep C)). batches_of s) same ∙ none_pending (l.published ++ l.pending)

  -- the keep was lent
  pub lent_goes_on : (l m : PenState (JoinKeep C)) → m ≡ record l { keep = m.keep } → KeepsTaken told l.keep m.keep → IsNotAsked l.keep m.keep
      → GoesOn told l m
  lent_goes_on l m same keeps own = record {
    joined = still_joined told l m (ap (λ (s : PenState (JoinKeep C)). s.lost) same) (ap (λ (s : PenState (JoinKeep C)). batches_of s) same) keeps;
    grows = ([], append-nil l.published ∙ sym (ap (λ (s : PenState (JoinKeep C)). s.published) same));
    own = own;
  }

  pub lent_batches : (l m : PenState (JoinKeep C)) → m ≡ record l { keep = m.keep } → batches_of m ≡ batches_of l
  lent_batches l m same = ap (λ (s : PenState (JoinKeep C)). batches_of s) same

  module _ (answers : C → List Record → ChainAnswer → C → Type 0) (base : Topic) (since : Option (Bor (List Item)))
      (l m : PenState (JoinKeep C)) (c : Command) (reply : Reply) (seen : List Item) where
    followed : (b : Bool) (floor : ℕ) (mid : PenState (JoinKeep C)) → MatchBool b (CompactsOrNot base floor mid m) (m ≡ mid) → IsSame mid m
    followed true floor mid compacts = compacted base floor mid m compacts
    followed false floor mid same = itself mid m same

    pub compacted_after : (done : SubmitsAndCompacts (JoinKeeps told answers) base since l c reply seen m) → IsSame done.submitted m
    compacted_after done =
        followed (passes_multiple (batches l.published) (batches done.submitted.published)) (floor_due base done.submitted)
        done.submitted done.compacts

    pub submitted_joined : SubmitsAndCompacts (JoinKeeps told answers) base since l c reply seen m → IsJoined told l → IsJoined told m
    submitted_joined done joined =
        same_joined told done.submitted m (compacted_after done)
        (stay_joined told answers base since l c reply done.submitted done.submits joined)

    as_submitted : (due : List Record) (mid : PenState (JoinKeep C)) → IsSame mid m → TakesDue l due mid → TakesDue l due m
    as_submitted due mid after (inl taken) = inl (after.keep ∙ taken.0, after.batches ∙ taken.1)
    as_submitted due mid after (inr (inl same)) = inr (inl (after.keep ∙ same.0, after.batches ∙ same.1))
    as_submitted due mid after (inr (inr stopped)) = inr (inr (after.keep ∙ stopped.0, after.batches ∙ stopped.1))

    pub due_is_taken : (due : List Record) → SubmitsAndCompacts (JoinKeeps told answers) base since l c reply seen m
        → l.keep.stand ≡ Due due → TakesDue l due m
    due_is_taken due done here =
        as_submitted due done.submitted (compacted_after done)
        (dues told answers base since l c reply done.submitted due done.submits here)

    due_own : (due : List Record) → TakesDue l due m → IsNotAsked l.keep m.keep
    due_own due (inl taken) = stands_otherwise l.keep m.keep Level taken.0
    due_own due (inr (inl same)) = not_asked l.keep m.keep same.0
    due_own due (inr (inr stopped)) = stands_otherwise l.keep m.keep Stopped stopped.0

    pub due_goes_on : (due : List Record) → SubmitsAndCompacts (JoinKeeps told answers) base since l c reply seen m
        → l.keep.stand ≡ Due due → IsPrefix l.published m.published → GoesOn told l m
    due_goes_on due done here grows = record {
      joined = submitted_joined done;
      grows = grows;
      own = due_own due (due_is_taken due done here);
    }

  -- what was taken is what was told
  pub tells_taken : (taken : TakenIn) (l m : PenState (JoinKeep C)) → Takes taken l m → IsJoined told m → TellsTaken told taken l m
  tells_taken takens.Batch l m takes joined =
      (takes.0, subst (λ (s : Stand). AreTakenAt told s (told m.keep.chain) (batches_of m)) takes.1 joined.taken ∙ takes.2, takes.2)
  tells_taken takens.All l m takes joined =
      subst (λ (s : Stand). AreTakenAt told s (told m.keep.chain) (batches_of m)) takes.0 joined.taken ∙ takes.2
  tells_taken takens.Stopped l m takes joined =
      subst (λ (bs : List (List Record)). IsPrefix bs (told m.keep.chain)) takes.1
      (subst (λ (s : Stand). AreTakenAt told s (told m.keep.chain) (batches_of m)) takes.0 joined.taken)

module _ {C : Type 0} (l m : PenState (JoinKeep C)) (due : List Record) (here : l.keep.stand ≡ Due due) where
  pub was_taken : TakesDue l due m → m.keep.stand ≡ Level → Takes takens.Batch l m
  was_taken (inl taken) level = (due, level, taken.1)
  was_taken (inr (inl same)) level = absurd (cc (sym here ∙ (sym (ap (λ (k : JoinKeep C). k.stand) same.0) ∙ level)))
  was_taken (inr (inr stopped)) level = absurd (cc (sym (ap (λ (k : JoinKeep C). k.stand) stopped.0) ∙ level))

  pub was_stopped : TakesDue l due m → m.keep.stand ≡ Stopped → Takes takens.Stopped l m
  was_stopped (inl taken) is = absurd (cc (sym (ap (λ (k : JoinKeep C). k.stand) taken.0) ∙ is))
  was_stopped (inr (inl same)) is = absurd (cc (sym here ∙ (sym (ap (λ (k : JoinKeep C). k.stand) same.0) ∙ is)))
  was_stopped (inr (inr stopped)) is = (is, stopped.1)

  pub was_left : (other : List Record) → TakesDue l due m → m.keep.stand ≡ Due other → batches_of m ≡ batches_of l
  was_left other (inl taken) is = absurd (cc (sym (ap (λ (k : JoinKeep C). k.stand) taken.0) ∙ is))
  was_left other (inr (inl same)) is = same.1
  was_left other (inr (inr stopped)) is = absurd (cc (sym (ap (λ (k : JoinKeep C). k.stand) stopped.0) ∙ is))

-- the batches before are the same
pub takes_after : {C : Type 0} (taken : TakenIn) (l k m : PenState (JoinKeep C)) → batches_of k ≡ batches_of l → Takes taken k m → Takes taken l m
takes_after takens.Batch l k m same takes = (takes.0, takes.1, takes.2 ∙ ap (λ (bs : List (List Record)). bs ++ takes.0 ∷ []) same)
takes_after takens.All l k m same takes = (takes.0, takes.1, takes.2 ∙ same)
takes_after takens.Stopped l k m same takes = (takes.0, takes.1 ∙ same)
