-- What follows from the parts of a command over a chain.
use Rattle.std.proofs.Common.{◌≡◌, List, [], Option, Some, None, MatchOption, refl, sym, ap, subst, ◌∙◌}
use Rattle.std.specs.Borrow.{Bor}
use mathlib.Core.List.{IsPrefix}
use Rattle.reg_records.specs.declared.record.Record.{Record}
use Rattle.reg_leader.specs.declared.command.Command.{Command}
use Rattle.reg_leader.specs.declared.reply.Reply.{Reply}
use Rattle.reg_topic.specs.declared.published.Item.{Item}
use Rattle.reg_topic.specs.declared.topic.Topic.{Topic}
use Rattle.reg_pen.specs.Pen.{PenState}
use Rattle.reg_pen.specs.Writing.{SubmitsAndCompacts}
use Rattle.reg_join.specs.Ending.{ComesTo, Concludes, Ends, MayEnd, forgotten}
use Rattle.reg_join.specs.Joined.{IsJoined, batches_of}
use Rattle.reg_join.specs.Joining.{AreTakenAt, Checks, ChecksAt, JoinKeeps}
use Rattle.reg_join.specs.Taking.{GoesOn, IsAtEnd, Takes}
use Rattle.reg_chain.specs.declared.chain.ChainAnswer.{ChainAnswer}
use Rattle.reg_chain.specs.declared.chain.ChainAnswer.TheVariants as answered
use Rattle.reg_join.specs.declared.commanding.JoinOutcome.{JoinOutcome}
use Rattle.reg_join.specs.declared.commanding.JoinOutcome.TheVariants as outcomes
use Rattle.reg_join.specs.declared.join_keep.JoinKeep.{JoinKeep}
use Rattle.reg_join.specs.declared.join_keep.Stand.{Stand}
use Rattle.reg_join.specs.declared.join_keep.Stand.TheVariants.{Level, Due, Stopped}
use Rattle.reg_join.specs.declared.taking.TakenIn.{TakenIn}
use Rattle.reg_join.specs.declared.taking.TakenIn.TheVariants as takens
use Rattle.reg_join.proofs.Ending.{may_end, tried}
use Rattle.reg_join.proofs.TakingIn.{prefix_trans, submitted_joined}

pub at_end : {C : Type 0} (taken : TakenIn) (l m : PenState (JoinKeep C)) → Takes taken l m → IsAtEnd taken m
at_end takens.Batch l m takes = tt
at_end takens.All l m takes = (takes.0, takes.1)
at_end takens.Stopped l m takes = takes.0

pub match_weaker : {E : Type 0} (r : Option E) (P P' : Type 0) (Q Q' : E → Type 0) → (P → P') → ((e : E) → Q e → Q' e)
    → MatchOption r P Q → MatchOption r P' Q'
match_weaker None P P' Q Q' f h m = f m
match_weaker (Some e) P P' Q Q' f h m = h e m

module _ {C : Type 0} (told : C → List (List Record)) where
  pub forgotten_joined : (l : PenState (JoinKeep C)) → IsJoined told l → IsJoined told (forgotten l)
  forgotten_joined l joined = record { kept = joined.kept; taken = joined.taken }

  pub forgets : (l m : PenState (JoinKeep C)) → m ≡ record l { keep = m.keep } → m.keep ≡ record l.keep { last = None } → m ≡ forgotten l
  forgets l m same keep = same ∙ ap (λ (k : JoinKeep C). record l { keep = k }) keep

  module _ (answers : C → List Record → ChainAnswer → C → Type 0) where
    kept_at : (stand : Stand) (l : PenState (JoinKeep C)) (answer : ChainAnswer) (k : JoinKeep C)
        → ChecksAt told answers stand l.keep answer k → AreTakenAt told stand (told l.keep.chain) (batches_of l) → answer ≡ answered.Kept
        → told k.chain ≡ batches_of l
    kept_at Level l answer k checks taken is = checks.tells ∙ taken
    kept_at (Due due) l answer k checks taken is = absurd (cc (sym checks.0 ∙ is))
    kept_at Stopped l answer k checks taken is = absurd (cc (sym checks.0 ∙ is))

    -- a check that is kept: all that was told is taken
    pub check_kept : (l m : PenState (JoinKeep C)) (answer : ChainAnswer) → Checks told answers l.keep answer m.keep → m ≡ record l { keep = m.keep }
        → IsJoined told l → answer ≡ answered.Kept → told m.keep.chain ≡ batches_of m
    check_kept l m answer checks same joined is =
        kept_at l.keep.stand l answer m.keep checks joined.taken is ∙ sym (ap (λ (s : PenState (JoinKeep C)). batches_of s) same)

    module _ (base : Topic) where
      -- a submit, and what is told of it
      pub once : (since : Option (Bor (List Item))) (l k m n : PenState (JoinKeep C)) (c : Command) (reply : Reply) (seen : List Item)
          (outcome : Option JoinOutcome) → k ≡ forgotten l → SubmitsAndCompacts (JoinKeeps told answers) base since k c reply seen m
          → l.keep.stand ≡ Level → l.pending ≡ []
          → Concludes told answers base m.keep.last m.keep c reply outcome n.keep → IsJoined told l
          → MayEnd told answers base outcome (forgotten l) c (Some seen) n.keep
      once since l k m n c reply seen outcome same done level clear concludes joined =
          let done' : SubmitsAndCompacts (JoinKeeps told answers) base since (forgotten l) c reply seen m =
          subst (λ (s : PenState (JoinKeep C)). SubmitsAndCompacts (JoinKeeps told answers) base since s c reply seen m) same done in
          may_end told answers base (forgotten l) c reply seen level m.keep.last m.keep n.keep outcome
          (tried told answers base since (forgotten l) c reply seen m done' (forgotten_joined l joined) level refl clear) concludes

      pub once_joined : (since : Option (Bor (List Item))) (l k m : PenState (JoinKeep C)) (c : Command) (reply : Reply) (seen : List Item)
          → k ≡ forgotten l → SubmitsAndCompacts (JoinKeeps told answers) base since k c reply seen m → IsJoined told l → IsJoined told m
      once_joined since l k m c reply seen same done joined =
          submitted_joined told answers base since k m c reply seen done
          (subst (λ (s : PenState (JoinKeep C)). IsJoined told s) (sym same) (forgotten_joined l joined))

      pub once_grows : (l k m n : PenState (JoinKeep C)) → k ≡ forgotten l → IsPrefix k.published m.published
          → IsPrefix m.published n.published → IsPrefix l.published n.published
      once_grows l k m n same first second =
          subst (λ (is : List Item). IsPrefix is n.published) (ap (λ (s : PenState (JoinKeep C)). s.published) same)
          (prefix_trans k.published m.published n.published first second)

      -- behind what was taken in
      pub ends_behind : (old mid new : PenState (JoinKeep C)) (c : Command) (outcome : JoinOutcome) (seen : Option (List Item))
          → GoesOn told old mid → ComesTo told answers base outcome (forgotten mid) c seen new.keep
          → Ends told answers base old c outcome seen new
      ends_behind old mid new c outcome seen goes comes = record {
        tried = forgotten mid;
        grows = goes.grows;
        none_kept = goes.own.kept;
        comes = comes;
      }

      pub ends_stopped : (old mid : PenState (JoinKeep C)) (c : Command) (outcome : JoinOutcome) (seen : Option (List Item))
          → GoesOn told old mid → mid.keep.stand ≡ Stopped → outcome ≡ outcomes.Stopped → Ends told answers base old c outcome seen mid
      ends_stopped old mid c outcome seen goes stopped is =
          subst (λ (o : JoinOutcome). Ends told answers base old c o seen mid) (sym is) (record {
            tried = mid;
            grows = goes.grows;
            none_kept = goes.own.kept;
            comes = (stopped, refl);
          })

      pub ends_no_memory : (old mid : PenState (JoinKeep C)) (c : Command) (outcome : JoinOutcome) (seen : Option (List Item))
          → GoesOn told old mid → outcome ≡ outcomes.NoMemory → Ends told answers base old c outcome seen mid
      ends_no_memory old mid c outcome seen goes is =
          subst (λ (o : JoinOutcome). Ends told answers base old c o seen mid) (sym is) (record {
            tried = mid;
            grows = goes.grows;
            none_kept = goes.own.kept;
            comes = refl;
          })

      pub ends_overtaken : (old new : PenState (JoinKeep C)) (c : Command) (outcome : JoinOutcome) (seen : Option (List Item))
          → IsPrefix old.published new.published → new.keep.kept ≡ old.keep.kept → outcome ≡ outcomes.Overtaken
          → Ends told answers base old c outcome seen new
      ends_overtaken old new c outcome seen grows same is =
          subst (λ (o : JoinOutcome). Ends told answers base old c o seen new) (sym is) (record {
            tried = new;
            grows = grows;
            none_kept = same;
            comes = refl;
          })
