-- What a pen keeps stays so at each call.
use Rattle.std.proofs.Common.{◌⊎◌, inl, inr, ℕ, List, [], ◌∷◌, ◌++◌, Option, sym, subst, arith}
use Rattle.std.specs.Borrow.{Bor}
use Rattle.reg_records.specs.declared.record.Record.{Record}
use Rattle.reg_leader.specs.Step.{IsStep}
use Rattle.reg_leader.specs.declared.command.Command.{Command}
use Rattle.reg_leader.specs.declared.reply.Reply.{Reply}
use Rattle.reg_leader.specs.declared.reply.Reply.TheVariants as replies
use Rattle.reg_topic.specs.Topic.{IsLawful, after_item, after_items, registry_of}
use Rattle.reg_topic.specs.declared.published.Item.{Item}
use Rattle.reg_topic.specs.declared.topic.Topic.{Topic}
use Rattle.reg_pen.specs.Pen.{Acts, CompactsOrNot, Follows, IsCompactRefusal, IsPen, LeavesCompaction, Pends, PenState, Submits, item_of, settled}
use Rattle.reg_pen.specs.declared.compact_error.CompactError.{CompactError}
use Rattle.reg_pen.specs.declared.compact_error.CompactError.TheVariants as refused
use Rattle.reg_pen.specs.declared.keep.Kept.{Kept}
use Rattle.reg_pen.specs.declared.keep.Kept.TheVariants.{Taken, Declined, Lost, Unknown}
use Rattle.reg_running.specs.Calls.{Added, CallsKeepPens}
use Rattle.reg_running.specs.Running.{Act, published}
use Rattle.reg_running.proofs.Acts.{acts_are_lawful, compactions_are_acts, submits_are_acts}

-- what is pending may follow on what is published
abbrev PendsRight : {K : Type 0} → Topic → PenState K → Type 0
PendsRight base m = Pends (after_items base m.published) m.pending

lawful_join : (t : Topic) (is js : List Item) → IsLawful t is → IsLawful (after_items t is) js → IsLawful t (is ++ js)
lawful_join t [] js h g = g
lawful_join t (i ∷ is) js h g = (h.0, lawful_join (after_item t i) is js h.1 g)

still_lawful : (count : ℕ) (base : Topic) (before after : List Item) (acts : List Act)
    → IsLawful base before → Added count base before after acts → IsLawful base after
still_lawful count base before after acts h added =
    subst (IsLawful base) (sym added.list)
    (lawful_join base before (published acts) h (acts_are_lawful (after_items base before) acts count added.are))

module _ {K : Type 0} (base : Topic) where
  follows_pends : (kept : Kept) (l m : PenState K) (command : Command)
      (replied unsettled reply : Reply) (first : Record) (rest : List Record)
      → IsStep (registry_of (after_items base l.published)) (after_items base l.published).next command replied (first ∷ rest)
      → PendsRight base l
      → Follows kept (item_of command (first ∷ rest)) replied unsettled l reply m → PendsRight base m
  follows_pends Taken l m command replied unsettled reply first rest step pends (inl done) = subst (PendsRight base) (sym done.1) tt
  follows_pends Taken l m command replied unsettled reply first rest step pends (inr left) =
      subst (PendsRight base) (sym left.1) (record { reply = replied; step = step; writes = λ e. cc })
  follows_pends (Declined lack) l m command replied unsettled reply first rest step pends h = subst (PendsRight base) (sym h.1) pends
  follows_pends Lost l m command replied unsettled reply first rest step pends h =
      subst (PendsRight base) (sym h.1) (record { reply = replied; step = step; writes = λ e. cc })
  follows_pends Unknown l m command replied unsettled reply first rest step pends h = subst (PendsRight base) (sym h.1) pends

  acts_pend : (keeps : K → List Record → Kept → K → Type 0) (l m : PenState K) (command : Command) (reply : Reply)
      → PendsRight base l → Acts keeps base l command reply m → PendsRight base m
  acts_pend keeps l m command reply pends (inl none) = subst (PendsRight base) (sym none.1) pends
  acts_pend keeps l m command reply pends (inr (inl lends)) =
      follows_pends lends.kept (record l { keep = lends.keep }) m command lends.replied
      (replies.Unsettled lends.first.offset) reply lends.first lends.rest lends.step pends lends.follows
  acts_pend keeps l m command reply pends (inr (inr refused)) = subst (PendsRight base) (sym refused.1) pends

  submits_pend : (keeps : K → List Record → Kept → K → Type 0)
      (since : Option (Bor (List Item))) (l m : PenState K) (command : Command) (reply : Reply)
      → PendsRight base l → Submits keeps base since l command reply m → PendsRight base m
  submits_pend keeps since l m command reply pends (inl ahead) = subst (PendsRight base) (sym ahead.2) pends
  submits_pend keeps since l m command reply pends (inr (behind, inl still)) = subst (PendsRight base) (sym still.1) pends
  submits_pend keeps since l m command reply pends (inr (behind, inr acts)) = acts_pend keeps (settled l) m command reply tt acts.1

  leaves_pend : (floor : ℕ) (l m : PenState K) → PendsRight base l → LeavesCompaction base floor l m → PendsRight base m
  leaves_pend floor l m pends (inl same) = subst (PendsRight base) (sym same) pends
  leaves_pend floor l m pends (inr (inl settles)) = subst (PendsRight base) (sym settles.1) tt
  leaves_pend floor l m pends (inr (inr waits)) = subst (PendsRight base) (sym waits.3) waits.2.may_be

  refused_pend : (floor : ℕ) (l m : PenState K) (error : CompactError)
      → PendsRight base l → IsCompactRefusal base floor l error m → PendsRight base m
  refused_pend floor l m (refused.FloorBelow kept) pends h = subst (PendsRight base) (sym h.2) pends
  refused_pend floor l m (refused.FloorAhead next) pends h = subst (PendsRight base) (sym h.3) pends
  refused_pend floor l m refused.OutOfMemory pends h = leaves_pend floor l m pends h.1.1
  refused_pend floor l m refused.Lost pends h = subst (PendsRight base) (sym h.1.1) pends

  compacts_pend : (floor : ℕ) (l m : PenState K) → PendsRight base l → CompactsOrNot base floor l m → PendsRight base m
  compacts_pend floor l m pends (inl done) = subst (PendsRight base) (sym done.3) tt
  compacts_pend floor l m pends (inr h) = refused_pend floor l m h.0 pends h.1

  calls_so : (keeps : K → List Record → Kept → K → Type 0) (since : Option (Bor (List Item)))
      (l m : PenState K) (command : Command) (reply : Reply) (floor : ℕ)
      → IsPen base l.published l.pending
      → Submits keeps base since l command reply m ⊎ CompactsOrNot base floor l m → IsPen base m.published m.pending
  calls_so keeps since l m command reply floor pen (inl submits) =
      let acts = submits_are_acts keeps base since l m command reply 1 0 (omega arith) pen submits in record {
        adopted = pen.adopted;
        lawful = still_lawful 1 base l.published m.published acts.0 pen.lawful acts.1;
        pends = submits_pend keeps since l m command reply pen.pends submits;
      }
  calls_so keeps since l m command reply floor pen (inr compacts) =
      let acts = compactions_are_acts K base floor l m 1 (omega arith) pen compacts in record {
        adopted = pen.adopted;
        lawful = still_lawful 1 base l.published m.published acts.0 pen.lawful acts.1;
        pends = compacts_pend floor l m pen.pends compacts;
      }

pub calls_keep_pens : {K : Type 0} (keeps : K → List Record → Kept → K → Type 0) → CallsKeepPens keeps
calls_keep_pens keeps base since l m command reply floor pen h = calls_so base keeps since l m command reply floor pen h
