-- What a desk knows once it has learnt of what another's answer stood on.
use Rattle.std.proofs.Common.{◌≡◌, ◌⊎◌, inl, inr, Bool, true, false, List, [], ◌∷◌, None, Option, MatchBool, refl, sym, ap, subst, ◌∙◌}
use Rattle.std.specs.List.{AllByRecursion}
use mathlib.Core.List.{IsPrefix}
use Rattle.reg_records.specs.declared.record.Record.{Record}
use Rattle.reg_topic.specs.declared.published.Item.{Item}
use Rattle.reg_shared.specs.Held.{Held}
use Rattle.reg_pen.specs.declared.keep.Kept.{Kept}
use Rattle.reg_node.specs.declared.take.Draw.{Draw}
use Rattle.reg_desk.specs.Desk.{AreTurns, Ask, Call, CallsKeepFresh, Fronts, IsFresh, Known, LearningKeepsFresh}
use Rattle.reg_desk.specs.Desk.{LearnsFronts, Order, ReadTheirWrites, Turn, front_of}
use Rattle.reg_desk.proofs.Fresh.{prefix_self, prefix_trans, still_fresh}

-- the topic's front stays, and goes as far as the one that is reported
pub stays_learnt : {W : Type 0} (first : Held) (before after : Known W) (fronts : Fronts)
    → after.seen ≡ before.seen → after.fresh ≡ before.fresh → after.submits ≡ before.submits → after.wake ≡ before.wake
    → IsPrefix (front_of fronts.topic) (front_of before.seen) → IsPrefix before.view after.view → IsPrefix fronts.node after.view
    → (before.fresh ≡ true → IsFresh first (front_of before.seen) before.view) → LearnsFronts first before fronts after
stays_learnt first before after fronts same fresh submits wake known this that shown = record {
  one = inl (same, fresh);
  topic_this =
      subst (λ (w : Option (List Item)). IsPrefix (front_of before.seen) (front_of w)) (sym same) (prefix_self (front_of before.seen));
  topic_that = subst (λ (w : Option (List Item)). IsPrefix (front_of fronts.topic) (front_of w)) (sym same) known;
  node_this = this;
  node_that = that;
  same_submits = submits;
  same_wake = wake;
  shown = λ yes. subst (λ (w : Option (List Item)). IsFresh first (front_of w) after.view) (sym same)
      (still_fresh first (front_of before.seen) before.view after.view (shown (sym fresh ∙ yes)) this);
}

-- the topic's front is the one that is reported, which goes farther
pub takes_learnt : {W : Type 0} (first : Held) (before after : Known W) (fronts : Fronts)
    → after.seen ≡ fronts.topic → after.fresh ≡ fronts.fresh → after.submits ≡ before.submits → after.wake ≡ before.wake
    → IsPrefix (front_of before.seen) (front_of fronts.topic) → IsPrefix before.view after.view → IsPrefix fronts.node after.view
    → (fronts.fresh ≡ true → IsFresh first (front_of fronts.topic) fronts.node) → LearnsFronts first before fronts after
takes_learnt first before after fronts same fresh submits wake known this that shown = record {
  one = inr (same, fresh);
  topic_this = subst (λ (w : Option (List Item)). IsPrefix (front_of before.seen) (front_of w)) (sym same) known;
  topic_that =
      subst (λ (w : Option (List Item)). IsPrefix (front_of fronts.topic) (front_of w)) (sym same) (prefix_self (front_of fronts.topic));
  node_this = this;
  node_that = that;
  same_submits = submits;
  same_wake = wake;
  shown = λ yes. subst (λ (w : Option (List Item)). IsFresh first (front_of w) after.view) (sym same)
      (still_fresh first (front_of fronts.topic) fronts.node after.view (shown (sym fresh ∙ yes)) that);
}

module _ {K W : Type 0} (keeps : K → List Record → Kept → K → Type 0) (wakes : W → List Item → W → Type 0) (first : Held) where
  -- what was shown stays so, whether the view shows more or nothing more
  shown_still : (seen front : List Item) (judged after : List Draw) (fresh : Bool)
      → MatchBool fresh (IsPrefix judged after × IsFresh first front after) (after ≡ judged)
      → IsFresh first seen judged → IsFresh first seen after
  shown_still seen front judged after true shows here = still_fresh first seen judged after here shows.0
  shown_still seen front judged after false same here = subst (IsFresh first seen) (sym same) here

  pub calls_keep : CallsKeepFresh keeps wakes first
  calls_keep seen before (Ask query answer) after here asks = still_fresh first seen before.view after.view here asks.shows
  calls_keep seen before (Order command reply) after here does =
      shown_still seen does.front does.judged after.view after.fresh does.shows
      (still_fresh first seen before.view does.judged here does.judges)

  pub learning_keeps : LearningKeepsFresh keeps wakes first
  learning_keeps seen before fronts after (inl here) learns = still_fresh first seen before.view after.view here learns.node_this
  learning_keeps seen before fronts after (inr there) learns = still_fresh first seen fronts.node after.view there learns.node_that

  -- at each turn from then on
  turns_keep : (seen : List Item) (fronts : Fronts) (turns : List (Turn W)) → IsFresh first seen fronts.node
      → AreTurns keeps wakes first fronts turns → AllByRecursion (λ t. IsFresh first seen t.after.view) turns
  turns_keep seen fronts [] there are = tt
  turns_keep seen fronts (t ∷ ts) there are =
      let learnt = learning_keeps seen t.before fronts t.learnt (inr there) are.0 in
      let after : IsFresh first seen t.after.view = calls_keep seen t.learnt t.call t.after learnt are.1 in
      let next = are.2 in
      let node : t.after.view ≡ next.0.node = sym (ap (λ (x : Fronts). x.node) next.1) in
      (after, turns_keep seen next.0 ts (subst (IsFresh first seen) node after) next.2)

  fresh_there : (fresh : Bool) (front : List Item) (judged after : List Draw)
      → MatchBool fresh (IsPrefix judged after × IsFresh first front after) (after ≡ judged) → fresh ≡ true → IsFresh first front after
  fresh_there true front judged after shows h = shows.1
  fresh_there false front judged after shows h = absurd (cc h)

  pub read_theirs : ReadTheirWrites keeps wakes first
  read_theirs before c reply done fronts turns d fresh s are =
      let same : front_of done.seen ≡ d.front = ap front_of d.seen in
      let node : done.view ≡ fronts.node = sym (ap (λ (x : Fronts). x.node) s) in
      let here : IsFresh first (front_of done.seen) done.view =
      subst (λ (w : List Item). IsFresh first w done.view) (sym same) (fresh_there done.fresh d.front d.judged done.view d.shows fresh) in
      turns_keep (front_of done.seen) fronts turns (subst (IsFresh first (front_of done.seen)) node here) are

-- no front begins each
pub nothing_begins : (known : Option (List Item)) (told : List Item) → known ≡ None → IsPrefix (front_of known) told
nothing_begins known told none = subst (λ (w : Option (List Item)). IsPrefix (front_of w) told) (sym none) (told, refl)

-- where there is no front to learn, what is known goes as far
pub nothing_known : (topic : Option (List Item)) (known : List Item) → None ≡ topic → IsPrefix (front_of topic) known
nothing_known topic known none = subst (λ (w : Option (List Item)). IsPrefix (front_of w) known) none (known, refl)
