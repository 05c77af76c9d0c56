-- A pen's batches stay those that its keep took.
use Rattle.std.proofs.Common.{◌≡◌, inl, inr, Bool, true, false, List, [], ◌∷◌, ◌++◌, refl, sym, ap, subst, append-nil, true≢false}
use Rattle.reg_records.specs.declared.record.Record.{Record}
use Rattle.reg_leader.specs.declared.command.Command.{Command}
use Rattle.reg_leader.specs.declared.reply.Reply.{Reply}
use Rattle.reg_leader.specs.declared.reply.Reply.TheVariants as replies
use Rattle.reg_topic.specs.declared.published.Item.{Item}
use Rattle.reg_topic.specs.declared.published.Item.TheVariants as items
use Rattle.reg_topic.specs.declared.topic.Topic.{Topic}
use Rattle.reg_pen.specs.Pen.{Acts, Follows, PenState, item_of}
use Rattle.reg_pen.specs.declared.keep.Kept.{Kept}
use Rattle.reg_pen.specs.declared.keep.Kept.TheVariants.{Taken, Declined, Lost, Unknown}
use Rattle.reg_join.specs.Joined.{IsJoined, SubmitsStayJoined, batches_in}
use Rattle.reg_join.specs.Joining.{AreTaken, JoinKeeps}
use Rattle.reg_chain.specs.declared.chain.ChainAnswer.{ChainAnswer}
use Rattle.reg_join.specs.declared.join_keep.JoinKeep.{JoinKeep}
use Rattle.reg_join.proofs.Taken.{AreTakenAfter, taken_after}

pub batches_both : (xs ys : List Item) → batches_in (xs ++ ys) ≡ batches_in xs ++ batches_in ys
batches_both [] ys = refl
batches_both (items.Commit commit ∷ xs) ys = ap (λ (bs : List (List Record)). commit.batch ∷ bs) (batches_both xs ys)
batches_both (items.Compaction c ∷ xs) ys = batches_both xs ys

-- nothing is pending, and nothing lost
abbrev pub clear : {K : Type 0} → List Item → K → PenState K
clear published keep = record { published = published; pending = []; lost = false; keep = keep }

module _ {C : Type 0} (told : C → List (List Record)) where
  -- of a pen where nothing is pending
  pub joined_clear : (published : List Item) (keep : JoinKeep C) → AreTaken told keep (batches_in published) → IsJoined told (clear published keep)
  joined_clear published keep taken =
      record { kept = refl; taken = subst (λ (is : List Item). AreTaken told keep (batches_in is)) (sym (append-nil published)) taken }

  module _ (answers : C → List Record → ChainAnswer → C → Type 0) where
    followed : (kept : Kept) (keep : JoinKeep C) (published : List Item) (c : Command) (r : Record) (rs : List Record)
        (replied unsettled reply : Reply) (m : PenState (JoinKeep C))
        → AreTakenAfter told answers kept keep (batches_in published) (r ∷ rs)
        → Follows kept (item_of c (r ∷ rs)) replied unsettled (clear published keep) reply m → IsJoined told m
    followed Taken keep published c r rs replied unsettled reply m taken (inl done) =
        subst (λ (n : PenState (JoinKeep C)). IsJoined told n) (sym done.1)
        (joined_clear (published ++ item_of c (r ∷ rs)) keep
        (subst (λ (bs : List (List Record)). AreTaken told keep bs) (sym (batches_both published (item_of c (r ∷ rs)))) taken))
    followed Taken keep published c r rs replied unsettled reply m taken (inr left) =
        subst (λ (n : PenState (JoinKeep C)). IsJoined told n) (sym left.1) (record {
          kept = refl;
          taken = subst (λ (bs : List (List Record)). AreTaken told keep bs) (sym (batches_both published (item_of c (r ∷ rs)))) taken;
        })
    followed (Declined lack) keep published c r rs replied unsettled reply m taken follows =
        subst (λ (n : PenState (JoinKeep C)). IsJoined told n) (sym follows.1) (joined_clear published keep taken)
    followed Lost keep published c r rs replied unsettled reply m taken follows = absurd taken
    followed Unknown keep published c r rs replied unsettled reply m taken follows =
        subst (λ (n : PenState (JoinKeep C)). IsJoined told n) (sym follows.1) (joined_clear published keep taken)

    acted : (base : Topic) (published : List Item) (keep : JoinKeep C) (c : Command) (reply : Reply) (m : PenState (JoinKeep C))
        → AreTaken told keep (batches_in published)
        → Acts (JoinKeeps told answers) base (clear published keep) c reply m → IsJoined told m
    acted base published keep c reply m taken (inl none) =
        subst (λ (n : PenState (JoinKeep C)). IsJoined told n) (sym none.1) (joined_clear published keep taken)
    acted base published keep c reply m taken (inr (inl lends)) =
        followed lends.kept lends.keep published c lends.first lends.rest lends.replied (replies.Unsettled lends.first.offset) reply m
        (taken_after told answers keep lends.keep (batches_in published) lends.first lends.rest keep.stand lends.kept refl taken lends.lent)
        lends.follows
    acted base published keep c reply m taken (inr (inr none)) =
        subst (λ (n : PenState (JoinKeep C)). IsJoined told n) (sym none.1) (joined_clear published keep taken)

    acted_at : (lost : Bool) (base : Topic) (published : List Item) (keep : JoinKeep C) (c : Command) (reply : Reply) (m : PenState (JoinKeep C))
        → lost ≡ false → AreTaken told keep (batches_in published)
        → Acts (JoinKeeps told answers) base (record { published = published; pending = []; lost = lost; keep = keep }) c reply m
        → IsJoined told m
    acted_at true base published keep c reply m none taken acts = absurd (true≢false none)
    acted_at false base published keep c reply m none taken acts = acted base published keep c reply m taken acts

    pub stay_joined : SubmitsStayJoined told answers
    stay_joined base since l c reply m (inl ahead) joined =
        subst (λ (n : PenState (JoinKeep C)). IsJoined told n) (sym ahead.2) joined
    stay_joined base since l c reply m (inr (behind, inl still)) joined =
        subst (λ (n : PenState (JoinKeep C)). IsJoined told n) (sym still.1) joined
    stay_joined base since l c reply m (inr (behind, inr acts)) joined =
        acted_at l.lost base (l.published ++ l.pending) l.keep c reply m acts.0 joined.taken acts.1
