-- What becomes of a command's batch.
use Rattle.std.proofs.Common.{◌≡◌, ◌≢◌, ◌⊎◌, inl, inr, ℕ, List, [], ◌∷◌, Some, refl, sym, ap, subst, ◌∙◌}
use Rattle.reg_records.specs.declared.record.Record.{Record}
use Rattle.reg_leader.specs.Outcome.{IsOutOfMemory}
use Rattle.reg_leader.specs.declared.command.Command.{Command}
use Rattle.reg_leader.specs.declared.decision.Decision.{Decision}
use Rattle.reg_leader.specs.declared.reply.Reply.{Reply}
use Rattle.reg_leader.specs.declared.reply.Reply.TheVariants as replies
use Rattle.reg_topic.specs.Topic.{MayCommit, after_items}
use Rattle.reg_topic.specs.declared.published.Item.{Item}
use Rattle.reg_topic.specs.declared.published.Item.TheVariants as items
use Rattle.reg_topic.specs.declared.topic.Topic.{Topic}
use Rattle.reg_pen.specs.Pen.{Acts, Follows, IsStepAfter, PenState, StillPends, item_of}
use Rattle.reg_pen.specs.Pending.{IsFirst, IsPending, reply_of}
use Rattle.reg_pen.specs.declared.keep.Kept.{Kept}
use Rattle.reg_pen.specs.declared.pen.Pending.{Pending}
use Rattle.reg_pen.specs.declared.pen.Pending.TheVariants.{Nothing, Batch, Lost, Compaction}

abbrev Decides : Topic → List Item → Command → Decision → Type 0
Decides base is c d = IsOutOfMemory d ⊎ IsStepAfter base is c d.reply d.batch

pub may_commit : (base : Topic) (is : List Item) (given mine : Command) (d : Decision) (n : ℕ)
    → mine ≡ given → Decides base is given d → IsFirst d.batch (Some n)
    → MayCommit (after_items base is) (record { command = mine; batch = d.batch })
may_commit base is given mine d n same (inl none) f = absurd (cc (sym f.2 ∙ none.1))
may_commit base is given mine d n same (inr step) f = record {
  reply = d.reply;
  step = subst (λ (c : Command). IsStepAfter base is c d.reply d.batch) (sym same) step;
  writes = λ e. absurd (cc (sym f.2 ∙ e));
}

commit_is : (given mine : Command) (batch : List Record) (first : Record) (rest : List Record) → mine ≡ given
    → batch ≡ first ∷ rest → items.Commit (record { command = mine; batch = batch }) ∷ [] ≡ item_of given (first ∷ rest)
commit_is given mine batch first rest same is =
    ap (λ (c : Command). items.Commit (record { command = c; batch = batch }) ∷ []) same
    ∙ ap (λ (b : List Record). items.Commit (record { command = given; batch = b }) ∷ []) is

module _ {K : Type 0} (keeps : K → List Record → Kept → K → Type 0) where
  pub lends : (base : Topic) (l m : PenState K) (given mine : Command) (d : Decision) (n : ℕ) (kept : Kept) (keep : K) (reply : Reply)
      → mine ≡ given → Decides base l.published given d → IsFirst d.batch (Some n)
      → keeps l.keep d.batch kept keep
      → Follows kept (items.Commit (record { command = mine; batch = d.batch }) ∷ []) d.reply
      (replies.Unsettled n) (record l { keep = keep }) reply m
      → Acts keeps base l given reply m
  lends base l m given mine d n kept keep reply same (inl none) f lent follows = absurd (cc (sym f.2 ∙ none.1))
  lends base l m given mine d n kept keep reply same (inr step) f lent follows = inr (inl (record {
    replied = d.reply;
    first = f.0;
    rest = f.1;
    step = subst (λ (b : List Record). IsStepAfter base l.published given d.reply b) f.2 step;
    kept = kept;
    keep = keep;
    lent = subst (λ (b : List Record). keeps l.keep b kept keep) f.2 lent;
    follows =
        subst (λ (is : List Item). Follows kept is d.reply (replies.Unsettled f.0.offset) (record l { keep = keep }) reply m)
        (commit_is given mine d.batch f.0 f.1 same f.2)
        (subst (λ (o : ℕ).
        Follows kept (items.Commit (record { command = mine; batch = d.batch }) ∷ []) d.reply
        (replies.Unsettled o) (record l { keep = keep }) reply m) f.3 follows);
  }))

  -- a refusal, or a command that writes nothing
  pub nothing_written : (base : Topic) (l m : PenState K) (given : Command) (d : Decision)
      → Decides base l.published given d → d.batch ≡ [] → m ≡ l → Acts keeps base l given d.reply m
  nothing_written base l m given d (inl none) f e = inr (inr (none.0, e))
  nothing_written base l m given d (inr step) f e =
      inl (subst (λ (b : List Record). IsStepAfter base l.published given d.reply b) f step, e)

pub still_pends : (p : Pending) (is : List Item) → IsPending p is → is ≢ [] → StillPends is (reply_of p)
still_pends Nothing is h n = absurd (n h)
still_pends (Batch k) [] h n = absurd h
still_pends (Batch k) (items.Commit commit ∷ []) h n = (h.0, h.1, h.2, ap replies.Unsettled h.3)
still_pends (Batch k) (items.Commit commit ∷ j ∷ is) h n = absurd h
still_pends (Batch k) (items.Compaction c ∷ is) h n = absurd h
still_pends (Lost k) [] h n = absurd h
still_pends (Lost k) (items.Commit commit ∷ []) h n = (h.0, h.1, h.2, ap replies.Unsettled h.3)
still_pends (Lost k) (items.Commit commit ∷ j ∷ is) h n = absurd h
still_pends (Lost k) (items.Compaction c ∷ is) h n = absurd h
still_pends Compaction [] h n = absurd h
still_pends Compaction (items.Compaction c ∷ []) h n = refl
still_pends Compaction (items.Compaction c ∷ j ∷ is) h n = absurd h
still_pends Compaction (items.Commit commit ∷ is) h n = absurd h
