-- A log whose keep is open is kept as its file is.
use Rattle.std.proofs.Common.{◌≡◌, inl, inr, ⊎_elim, List, [], ◌∷◌, Option, refl, ap, subst, ◌∙◌}
use Rattle.std.specs.Borrow.{Bor}
use Rattle.reg_pen.specs.Opening.{KeepsDue}
use Rattle.reg_pen.specs.Pen.{Acts, Follows, PenState, Submits, item_of, settled}
use Rattle.reg_pen.specs.declared.keep.Kept.{Kept}
use Rattle.reg_pen.specs.declared.keep.Kept.TheVariants.{Taken, Declined, Lost, Unknown}
use Rattle.reg_leader.specs.declared.command.Command.{Command}
use Rattle.reg_leader.specs.declared.reply.Reply.{Reply}
use Rattle.reg_leader.specs.declared.reply.Reply.TheVariants as replies
use Rattle.reg_records.specs.declared.record.Record.{Record}
use Rattle.reg_topic.specs.declared.published.Item.{Item}
use Rattle.reg_topic.specs.declared.topic.Topic.{Topic}
use Rattle.reg_file_keep.specs.KeepState.{KeepState}
use Rattle.reg_file_keep.specs.LogKeep.{KeepsLog, as_file}
use Rattle.reg_file_keep.specs.declared.log_keep.LogKeep.{LogKeep}
use Rattle.reg_file_keep.specs.declared.log_keep.LogKeep.TheVariants.{Open, Closed}

module _ {D : Type 0} (keeps : KeepState D → List Record → Kept → KeepState D → Type 0) where
  -- an open keep stays open
  stays_open : (old : KeepState D) (batch : List Record) (kept : Kept) (new : LogKeep D) → KeepsLog keeps (Open old) batch kept new
      → (keep : KeepState D) × (new ≡ Open keep) × keeps old batch kept keep
  stays_open old batch kept (Open new) did = (new, refl, did)
  stays_open old batch kept Closed did = absurd did

  stays_closed : (batch : List Record) (kept : Kept) (new : LogKeep D) → KeepsLog keeps Closed batch kept new → new ≡ Closed
  stays_closed batch kept (Open new) did = absurd did
  stays_closed batch kept Closed did = refl

  pub opens : (old : KeepState D) (due : List Record) (new : LogKeep D) → KeepsDue (KeepsLog keeps) (Open old) due new
      → (keep : KeepState D) × (new ≡ Open keep) × KeepsDue keeps old due keep
  opens old [] new same = (old, same, refl)
  opens old (r ∷ rs) new did = stays_open old (r ∷ rs) Taken new did

  -- what follows on what became of a batch
  follows : (kept : Kept) (is : List Item) (replied unsettled reply : Reply) (l m : PenState (LogKeep D)) (keep : KeepState D)
      → l.keep ≡ Open keep → Follows kept is replied unsettled l reply m
      → (m.keep ≡ Open keep) × Follows kept is replied unsettled (as_file l keep) reply (as_file m keep)
  follows Taken is replied unsettled reply l m keep is_open did =
      ⊎_elim
      (λ done. (ap (λ (n : PenState (LogKeep D)). n.keep) done.1 ∙ is_open, inl (done.0, ap (λ (n : PenState (LogKeep D)). as_file n keep) done.1)))
      (λ pends. (ap (λ (n : PenState (LogKeep D)). n.keep) pends.1 ∙ is_open, inr (pends.0, ap (λ (n : PenState (LogKeep D)). as_file n keep) pends.1)))
      did
  follows (Declined lack) is replied unsettled reply l m keep is_open did =
      (ap (λ (n : PenState (LogKeep D)). n.keep) did.1 ∙ is_open, (did.0, ap (λ (n : PenState (LogKeep D)). as_file n keep) did.1))
  follows Lost is replied unsettled reply l m keep is_open did =
      (ap (λ (n : PenState (LogKeep D)). n.keep) did.1 ∙ is_open, (did.0, ap (λ (n : PenState (LogKeep D)). as_file n keep) did.1))
  follows Unknown is replied unsettled reply l m keep is_open did =
      (ap (λ (n : PenState (LogKeep D)). n.keep) did.1 ∙ is_open, (did.0, ap (λ (n : PenState (LogKeep D)). as_file n keep) did.1))

  acts : (base : Topic) (l m : PenState (LogKeep D)) (c : Command) (reply : Reply) (keep : KeepState D) → l.keep ≡ Open keep
      → Acts (KeepsLog keeps) base l c reply m
      → (after : KeepState D) × (m.keep ≡ Open after) × Acts keeps base (as_file l keep) c reply (as_file m after)
  acts base l m c reply keep is_open did =
      ⊎_elim
      (λ wrote_nothing. (
        keep,
        ap (λ (n : PenState (LogKeep D)). n.keep) wrote_nothing.1 ∙ is_open,
        inl (wrote_nothing.0, ap (λ (n : PenState (LogKeep D)). as_file n keep) wrote_nothing.1),
      ))
      (λ more. ⊎_elim
      (λ lends.
      let batch = lends.first ∷ lends.rest in
      let it = stays_open keep batch lends.kept lends.keep
      (subst (λ (k : LogKeep D). KeepsLog keeps k batch lends.kept lends.keep) is_open lends.lent) in
      let then = follows lends.kept (item_of c batch) lends.replied (replies.Unsettled lends.first.offset) reply
      (record l { keep = lends.keep }) m it.0 it.1 lends.follows in (
        it.0,
        then.0,
        inr (inl (record {
          replied = lends.replied;
          first = lends.first;
          rest = lends.rest;
          step = lends.step;
          kept = lends.kept;
          keep = it.0;
          lent = it.2;
          follows = then.1;
        })),
      ))
      (λ refused. (
        keep,
        ap (λ (n : PenState (LogKeep D)). n.keep) refused.1 ∙ is_open,
        inr (inr (refused.0, ap (λ (n : PenState (LogKeep D)). as_file n keep) refused.1)),
      ))
      more)
      did

  pub submits : (base : Topic) (since : Option (Bor (List Item))) (l m : PenState (LogKeep D)) (c : Command) (reply : Reply)
      (keep : KeepState D) → l.keep ≡ Open keep → Submits (KeepsLog keeps) base since l c reply m
      → (after : KeepState D) × (m.keep ≡ Open after) × Submits keeps base since (as_file l keep) c reply (as_file m after)
  submits base since l m c reply keep is_open did =
      ⊎_elim
      (λ ahead. (
        keep,
        ap (λ (n : PenState (LogKeep D)). n.keep) ahead.2 ∙ is_open,
        inl (ahead.0, ahead.1, ap (λ (n : PenState (LogKeep D)). as_file n keep) ahead.2),
      ))
      (λ behind. ⊎_elim
      (λ still. (
        keep,
        ap (λ (n : PenState (LogKeep D)). n.keep) still.1 ∙ is_open,
        inr (behind.0, inl (still.0, ap (λ (n : PenState (LogKeep D)). as_file n keep) still.1)),
      ))
      (λ done.
      let it = acts base (settled l) m c reply keep is_open done.1 in
      (it.0, it.1, inr (behind.0, inr (done.0, it.2))))
      behind.1)
      did

  followed : (kept : Kept) (is : List Item) (replied unsettled reply : Reply) (l m : PenState (LogKeep D))
      → Follows kept is replied unsettled l reply m → m.keep ≡ l.keep
  followed Taken is replied unsettled reply l m did =
      ⊎_elim (λ done. ap (λ (n : PenState (LogKeep D)). n.keep) done.1) (λ pends. ap (λ (n : PenState (LogKeep D)). n.keep) pends.1) did
  followed (Declined lack) is replied unsettled reply l m did = ap (λ (n : PenState (LogKeep D)). n.keep) did.1
  followed Lost is replied unsettled reply l m did = ap (λ (n : PenState (LogKeep D)). n.keep) did.1
  followed Unknown is replied unsettled reply l m did = ap (λ (n : PenState (LogKeep D)). n.keep) did.1

  acts_closed : (base : Topic) (l m : PenState (LogKeep D)) (c : Command) (reply : Reply) → l.keep ≡ Closed
      → Acts (KeepsLog keeps) base l c reply m → m.keep ≡ Closed
  acts_closed base l m c reply closed did =
      ⊎_elim
      (λ wrote_nothing. ap (λ (n : PenState (LogKeep D)). n.keep) wrote_nothing.1 ∙ closed)
      (λ more. ⊎_elim
      (λ lends.
      let batch = lends.first ∷ lends.rest in
      followed lends.kept (item_of c batch) lends.replied (replies.Unsettled lends.first.offset) reply (record l { keep = lends.keep }) m
      lends.follows
      ∙ stays_closed batch lends.kept lends.keep
      (subst (λ (k : LogKeep D). KeepsLog keeps k batch lends.kept lends.keep) closed lends.lent))
      (λ refused. ap (λ (n : PenState (LogKeep D)). n.keep) refused.1 ∙ closed)
      more)
      did

  pub submits_closed : (base : Topic) (since : Option (Bor (List Item))) (l m : PenState (LogKeep D)) (c : Command) (reply : Reply)
      → l.keep ≡ Closed → Submits (KeepsLog keeps) base since l c reply m → m.keep ≡ Closed
  submits_closed base since l m c reply closed did =
      ⊎_elim
      (λ ahead. ap (λ (n : PenState (LogKeep D)). n.keep) ahead.2 ∙ closed)
      (λ behind. ⊎_elim
      (λ still. ap (λ (n : PenState (LogKeep D)). n.keep) still.1 ∙ closed)
      (λ done. acts_closed base (settled l) m c reply closed done.1)
      behind.1)
      did
