-- A keep that has taken all that was told stays so over a submit and a check.
use Rattle.std.proofs.Common.{◌≡◌, inl, inr, Bool, true, false, List, ◌∷◌, Option, Some, None, MatchBool, ap, subst, ◌∙◌}
use Rattle.std.specs.Borrow.{Bor}
use Rattle.reg_records.specs.declared.record.Record.{Record}
use Rattle.reg_leader.specs.declared.command.Command.{Command}
use Rattle.reg_leader.specs.declared.reply.Reply.{Reply}
use Rattle.reg_leader.specs.declared.reply.Reply.TheVariants as replies
use Rattle.reg_topic.specs.declared.published.Item.{Item}
use Rattle.reg_topic.specs.declared.topic.Topic.{Topic}
use Rattle.reg_pen.specs.Pen.{Acts, Follows, PenState, Submits, item_of, settled}
use Rattle.reg_pen.specs.Writing.{SubmitsAndCompacts}
use Rattle.reg_pen.specs.declared.keep.Kept.{Kept}
use Rattle.reg_pen.specs.declared.keep.Kept.TheVariants.{Taken, Declined, Lost, Unknown}
use Rattle.reg_chain.specs.declared.chain.ChainAnswer.{ChainAnswer}
use Rattle.reg_join.specs.Ending.{ChecksAfter, Concludes}
use Rattle.reg_join.specs.Joining.{ChecksAt, JoinKeeps, KeepsAt}
use Rattle.reg_join.specs.Memory.{is_no_memory}
use Rattle.reg_join.specs.declared.commanding.JoinOutcome.{JoinOutcome}
use Rattle.reg_join.specs.declared.commanding.JoinOutcome.TheVariants as outcomes
use Rattle.reg_join.specs.declared.join_keep.JoinKeep.{JoinKeep}
use Rattle.reg_join.specs.declared.join_keep.Stand.{Stand}
use Rattle.reg_join.specs.declared.join_keep.Stand.TheVariants.{Level}
use Rattle.reg_join.proofs.TakingIn.{compacted_after}

-- what follows on a batch leaves the keep
pub same_keep : {K : Type 0} (kept : Kept) (is : List Item) (replied unsettled : Reply) (l : PenState K) (reply : Reply) (m : PenState K)
    → Follows kept is replied unsettled l reply m → m.keep ≡ l.keep
same_keep {K = K} Taken is replied unsettled l reply m (inl done) = ap (λ (s : PenState K). s.keep) done.1
same_keep {K = K} Taken is replied unsettled l reply m (inr left) = ap (λ (s : PenState K). s.keep) left.1
same_keep {K = K} (Declined lack) is replied unsettled l reply m h = ap (λ (s : PenState K). s.keep) h.1
same_keep {K = K} Lost is replied unsettled l reply m h = ap (λ (s : PenState K). s.keep) h.1
same_keep {K = K} Unknown is replied unsettled l reply m h = ap (λ (s : PenState K). s.keep) h.1

module _ {C : Type 0} (told : C → List (List Record)) (answers : C → List Record → ChainAnswer → C → Type 0) (base : Topic) where
  module _ (since : Option (Bor (List Item))) (l : PenState (JoinKeep C)) (c : Command) (reply : Reply) (level : l.keep.stand ≡ Level) where
    as_it_was : (m : PenState (JoinKeep C)) → m.keep ≡ l.keep → m.keep.stand ≡ Level
    as_it_was m same = ap (λ (k : JoinKeep C). k.stand) same ∙ level

    acted : (m : PenState (JoinKeep C)) → Acts (JoinKeeps told answers) base (settled l) c reply m → m.keep.stand ≡ Level
    acted m (inl none) = as_it_was m (ap (λ (s : PenState (JoinKeep C)). s.keep) none.1)
    acted m (inr (inl lends)) =
        ap (λ (k : JoinKeep C). k.stand)
        (same_keep lends.kept (item_of c (lends.first ∷ lends.rest)) lends.replied (replies.Unsettled lends.first.offset)
        (record (settled l) { keep = lends.keep }) reply m lends.follows)
        ∙ (subst (λ (s : Stand). KeepsAt told answers s l.keep (lends.first ∷ lends.rest) lends.kept lends.keep) level lends.lent).level
    acted m (inr (inr none)) = as_it_was m (ap (λ (s : PenState (JoinKeep C)). s.keep) none.1)

    submitted : (m : PenState (JoinKeep C)) → Submits (JoinKeeps told answers) base since l c reply m → m.keep.stand ≡ Level
    submitted m (inl ahead) = as_it_was m (ap (λ (s : PenState (JoinKeep C)). s.keep) ahead.2)
    submitted m (inr (behind, inl still)) = as_it_was m (ap (λ (s : PenState (JoinKeep C)). s.keep) still.1)
    submitted m (inr (behind, inr acts)) = acted m acts.1

    -- after a submit
    pub submitted_level : (m : PenState (JoinKeep C)) (seen : List Item) → SubmitsAndCompacts (JoinKeeps told answers) base since l c reply seen m
        → m.keep.stand ≡ Level
    submitted_level m seen done =
        ap (λ (k : JoinKeep C). k.stand) (compacted_after told answers base since l m c reply seen done).keep
        ∙ submitted done.submitted done.submits

  module _ (k k' : JoinKeep C) (c : Command) (reply : Reply) (outcome : Option JoinOutcome) (level : k.stand ≡ Level) where
    checked : (answer : ChainAnswer) → ChecksAt told answers Level k answer k' → k'.stand ≡ Level
    checked answer asks = ap (λ (j : JoinKeep C). j.stand) asks.same ∙ level

    alone : (b : Bool) → MatchBool b ((outcome ≡ Some outcomes.NoMemory) × (k' ≡ k)) (ChecksAfter told answers base k c reply outcome k')
        → k'.stand ≡ Level
    alone true h = ap (λ (j : JoinKeep C). j.stand) h.1 ∙ level
    alone false h = checked h.answer (subst (λ (s : Stand). ChecksAt told answers s k h.answer k') level h.checks)

    -- and after what is told of it
    pub concluded_level : (last : Option ChainAnswer) → Concludes told answers base last k c reply outcome k' → k'.stand ≡ Level
    concluded_level (Some answer) h = ap (λ (j : JoinKeep C). j.stand) h.1 ∙ level
    concluded_level None h = alone (is_no_memory reply) h
