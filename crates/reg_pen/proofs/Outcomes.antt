-- What a submit comes to over a keep that takes every batch.
use Rattle.std.proofs.Common.{◌≡◌, ◌⊎◌, inl, inr, ◌↔◌, Bool, true, false, List, [], ◌∷◌, ◌++◌, Option, refl, sym, ap, subst, ◌∙◌, true≢false}
use Rattle.std.proofs.lemmas.List.{append-nil}
use Rattle.std.specs.Borrow.{Bor}
use Rattle.reg_records.specs.declared.record.Record.{Record}
use Rattle.reg_leader.specs.declared.command.Command.{Command}
use Rattle.reg_leader.specs.declared.reply.Reply.{Reply}
use Rattle.reg_leader.specs.declared.reply.Reply.TheVariants as replies
use Rattle.reg_topic.specs.declared.published.Item.{Item}
use Rattle.reg_topic.specs.declared.topic.Topic.{Topic}
use Rattle.reg_pen.specs.Keep.{TakesAll}
use Rattle.reg_pen.specs.Outcomes.{LeavesBatch, Publishes, PublishesOrWaits, SubmitsPublishOrWait}
use Rattle.reg_pen.specs.Pen.{Acts, Follows, IsNoMemory, IsStepAfter, Lends, PenState, Submits, item_of, settled}
use Rattle.reg_pen.specs.declared.keep.Kept.{Kept}
use Rattle.reg_pen.specs.declared.keep.Kept.TheVariants.{Taken, Declined, Lost, Unknown}

module _ {K : Type 0} (base : Topic) (published : List Item) (keep : K) (c : Command) (reply : Reply) (m : PenState K) where
  -- nothing is pending, and nothing lost
  abbrev clear : PenState K
  clear = record { published = published; pending = []; lost = false; keep = keep }

  abbrev Outcome : PenState K → Type 0
  Outcome l = Publishes base l c reply m ⊎ LeavesBatch base l c reply m ⊎ IsNoMemory reply × (m ≡ l)

  none_added : clear ≡ record clear { published = published ++ [] }
  none_added = ap (λ (is : List Item). record clear { published = is }) (sym (append-nil published))

  followed : (kept : Kept) (keep' : K) (replied : Reply) (first : Record) (rest : List Record) → kept ≡ Taken → keep' ≡ keep
      → IsStepAfter base published c replied (first ∷ rest)
      → Follows kept (item_of c (first ∷ rest)) replied (replies.Unsettled first.offset) (record clear { keep = keep' }) reply m
      → Outcome clear
  followed Taken keep' replied first rest is same step (inl done) = inl (
    first ∷ rest,
    subst (λ (r : Reply). IsStepAfter base published c r (first ∷ rest)) (sym done.0) step,
    done.1 ∙ ap (λ (k : K). record clear { published = published ++ item_of c (first ∷ rest); keep = k }) same,
  )
  followed Taken keep' replied first rest is same step (inr left) = inr (inl (
    replied,
    first,
    rest,
    step,
    left.0,
    left.1 ∙ ap (λ (k : K). record clear { pending = item_of c (first ∷ rest); keep = k }) same,
  ))
  followed (Declined lack) keep' replied first rest is same step follows = absurd (cc is)
  followed Lost keep' replied first rest is same step follows = absurd (cc is)
  followed Unknown keep' replied first rest is same step follows = absurd (cc is)

  outcome : Acts (TakesAll {K = K}) base clear c reply m → Outcome clear
  outcome (inl none) = inl ([], none.0, none.1 ∙ none_added)
  outcome (inr (inl lends)) =
      followed lends.kept lends.keep lends.replied lends.first lends.rest lends.lent.0 lends.lent.1 lends.step lends.follows
  outcome (inr (inr refused)) = inr (inr refused)

  published_act : (batch : List Record) → IsStepAfter base published c reply batch
      → m ≡ record clear { published = published ++ item_of c batch } → Acts (TakesAll {K = K}) base clear c reply m
  published_act [] step e = inl (step, e ∙ sym none_added)
  published_act (r ∷ rs) step e = inr (inl (record {
    replied = reply;
    first = r;
    rest = rs;
    step = step;
    kept = Taken;
    keep = keep;
    lent = (refl, refl);
    follows = inl (refl, e);
  }))

  acted : Outcome clear → Acts (TakesAll {K = K}) base clear c reply m
  acted (inl done) = published_act done.0 done.1 done.2
  acted (inr (inl left)) = inr (inl (record {
    replied = left.0;
    first = left.1;
    rest = left.2;
    step = left.3;
    kept = Taken;
    keep = keep;
    lent = (refl, refl);
    follows = inr (left.4, left.5);
  }))
  acted (inr (inr refused)) = inr (inr refused)

  -- where no batch is lost
  outcome_at : (lost : Bool) → lost ≡ false → Acts (TakesAll {K = K}) base (record clear { lost = lost }) c reply m
      → Outcome (record clear { lost = lost })
  outcome_at true none acts = absurd (true≢false none)
  outcome_at false none acts = outcome acts

  acted_at : (lost : Bool) → lost ≡ false → Outcome (record clear { lost = lost })
      → Acts (TakesAll {K = K}) base (record clear { lost = lost }) c reply m
  acted_at true none come = absurd (true≢false none)
  acted_at false none come = acted come

module _ {K : Type 0} (base : Topic) (since : Option (Bor (List Item))) (l : PenState K) (c : Command) (reply : Reply) (m : PenState K) where
  comes : Submits (TakesAll {K = K}) base since l c reply m → PublishesOrWaits base since l c reply m
  comes (inl ahead) = inl ahead
  comes (inr (behind, inl still)) = inr (behind, inl still)
  comes (inr (behind, inr acts)) =
      inr (behind, inr (acts.0, outcome_at base (l.published ++ l.pending) l.keep c reply m l.lost acts.0 acts.1))

  submits : PublishesOrWaits base since l c reply m → Submits (TakesAll {K = K}) base since l c reply m
  submits (inl ahead) = inl ahead
  submits (inr (behind, inl still)) = inr (behind, inl still)
  submits (inr (behind, inr come)) =
      inr (behind, inr (come.0, acted_at base (l.published ++ l.pending) l.keep c reply m l.lost come.0 come.1))

pub publish_or_wait : (K : Type 0) → SubmitsPublishOrWait K
publish_or_wait K base since l c reply m = (comes base since l c reply m, submits base since l c reply m)
