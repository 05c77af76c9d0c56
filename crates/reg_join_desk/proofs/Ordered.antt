-- What a command does at a pen, and what is seen then.
use Rattle.std.proofs.Common.{◌≡◌, ◌⊎◌, inl, inr, List, [], ◌∷◌, ◌++◌, Option, Some, None, refl, sym, ap, subst, ◌∙◌, append_assoc, option_map, Bor}
use Rattle.std.proofs.lemmas.List.{append-nil}
use mathlib.Core.List.{IsPrefix}
use Rattle.reg_records.specs.declared.record.Record.{Record}
use Rattle.reg_leader.specs.declared.command.Command.{Command}
use Rattle.reg_leader.specs.declared.reply.Reply.{Reply}
use Rattle.reg_topic.specs.declared.published.Item.{Item}
use Rattle.reg_topic.specs.declared.topic.Topic.{Topic}
use Rattle.reg_pen.specs.Pen.{IsPen, PenState, item_of}
use Rattle.reg_desk.specs.Desk.{front_of}
use Rattle.reg_desk.proofs.Told.{same_front}
use Rattle.reg_chain.specs.declared.chain.ChainAnswer.{ChainAnswer}
use Rattle.reg_join.specs.Ending.{ComesTo, Ends, whole_list}
use Rattle.reg_join.specs.Joined.{IsJoined}
use Rattle.reg_join.specs.Taking.{StopsAtNobodys}
use Rattle.reg_join.specs.declared.commanding.JoinOutcome.{JoinOutcome}
use Rattle.reg_join.specs.declared.commanding.JoinOutcome.TheVariants as outcomes
use Rattle.reg_join.specs.declared.join_keep.JoinKeep.{JoinKeep}
use Rattle.reg_join_desk.specs.JoinedDesk.{IsOrdered, JoinCarries, JoinOrders, ShowWhatTheyReply, ShowsTold, declined_reply, outcome_reply}

prefix_self : {A : Type 0} (xs : List A) → IsPrefix xs xs
prefix_self xs = ([], append-nil xs)

prefix_trans : {A : Type 0} (xs ys zs : List A) → IsPrefix xs ys → IsPrefix ys zs → IsPrefix xs zs
prefix_trans xs ys zs p q = (p.0 ++ q.0, sym (append_assoc xs p.0 q.0) ∙ (ap (λ w. w ++ q.0) p.1 ∙ q.1))

-- where nothing was seen, that begins each list
pub nothing_begins : (known : Option (List Item)) (told : List Item) → known ≡ None → IsPrefix (front_of known) told
nothing_begins known told none = subst (λ (w : Option (List Item)). IsPrefix (front_of w) told) (sym none) (told, refl)

-- what is seen goes on
told_grows : (judged : List Item) (told : Option (List Item)) (front : List Item) → ShowsTold judged told front → IsPrefix judged front
told_grows judged None front same = subst (IsPrefix judged) (sym same) (prefix_self judged)
told_grows judged (Some told) front shows = shows.this

-- where a list was told that begins with the one before, it is seen
told_seen : (judged list : List Item) (told : Option (List Item)) (front : List Item) → told ≡ Some list → IsPrefix judged list
    → ShowsTold judged told front → told ≡ Some front
told_seen judged list None front is p shows = absurd (cc is)
told_seen judged list (Some told) front is p shows =
    let same : told ≡ list = cc is in
    let here : IsPrefix judged told = subst (IsPrefix judged) (sym same) p in
    ap Some (sym (same_front judged told front shows.one shows.that here))

module _ {C : Type 0} (told : C → List (List Record)) (answers : C → List Record → ChainAnswer → C → Type 0) (base : Topic) where
  -- what a pen did, which was covered by what its list begins with
  pub is_ordered : (covered old new : PenState (JoinKeep C)) (since : List Item) (c : Command) (outcome : JoinOutcome) (seen : Option (List Item))
      → IsPrefix since covered.published → old ≡ covered → Ends told answers base old c outcome seen new
      → IsPen base old.published old.pending → IsJoined told old → IsJoined told new → IsPrefix old.published new.published
      → StopsAtNobodys told base new → IsOrdered told answers base since c outcome seen
  is_ordered covered old new since c outcome seen begun same ends was was_joined joined grows stops = record {
    old = old;
    was = was;
    was_joined = was_joined;
    begun = subst (λ (l : PenState (JoinKeep C)). IsPrefix since l.published) (sym same) begun;
    new = new;
    joined = joined;
    grows = grows;
    stops = stops;
    ends = ends;
  }

  -- a pen whose batches are those that its chain told meets the premise
  pub ends_given : (lent inside old new : PenState (JoinKeep C)) (c : Command) (outcome : JoinOutcome) (seen : Option (List Item))
      → lent ≡ inside → inside ≡ old → IsJoined told inside
      → (IsJoined told lent → Ends told answers base lent c outcome seen new) → Ends told answers base old c outcome seen new
  ends_given lent inside old new c outcome seen same is joined ends =
      subst (λ (l : PenState (JoinKeep C)). Ends told answers base l c outcome seen new) (same ∙ is)
      (ends (subst (IsJoined told) (sym same) joined))

  -- what was done with a command that was judged over a list, by whoever holds a copy of that list's front
  pub orders : (since judged again front : List Item) (c : Command) (reply : Reply) (outcome : JoinOutcome) (seen : Option (List Item))
      → IsPrefix since judged → again ≡ judged → IsOrdered told answers base again c outcome seen → reply ≡ outcome_reply outcome
      → ShowsTold judged seen front → JoinOrders told answers base since c reply front
  orders since judged again front c reply outcome seen judges same ordered replies shows = record {
    judged = judged;
    judges = judges;
    outcome = outcome;
    seen = seen;
    ordered = subst (λ (w : List Item). IsOrdered told answers base w c outcome seen) same ordered;
    replies = replies;
    shows = shows;
  }

  pub orders_grow : (since : List Item) (c : Command) (reply : Reply) (front : List Item) → JoinOrders told answers base since c reply front
      → IsPrefix since front
  orders_grow since c reply front o = prefix_trans since o.judged front o.judges (told_grows o.judged o.seen front o.shows)

  -- nothing was done
  pub nothing_more : (since front : List Item) → front ≡ since → IsPrefix since front
  nothing_more since front same = subst (IsPrefix since) (sym same) (prefix_self since)

  -- the list of a reply begins with all that was published when its command was decided last
  replied_list : (tried : PenState (JoinKeep C)) (c : Command) (reply : Reply) (seen : Option (List Item)) (k : JoinKeep C)
      → ComesTo told answers base (outcomes.Replied reply) tried c seen k → (list : List Item) × ((seen ≡ Some list) × IsPrefix tried.published list)
  replied_list tried c reply seen k (inl alone) = (whole_list tried, (alone.shown, (tried.pending, refl)))
  replied_list tried c reply seen k (inr behind) =
      let item : List Item = item_of c (behind.first ∷ behind.rest) in
      (whole_list tried ++ item, (behind.shown, (tried.pending ++ item, sym (append_assoc tried.published tried.pending item))))

  pub show_replies : ShowWhatTheyReply told answers base
  show_replies since c reply replied front done is =
      let ends = done.ordered.ends in
      let comes : ComesTo told answers base (outcomes.Replied replied) ends.tried c done.seen done.ordered.new.keep =
      subst (λ (o : JoinOutcome). ComesTo told answers base o ends.tried c done.seen done.ordered.new.keep) is ends.comes in
      let list = replied_list ends.tried c replied done.seen done.ordered.new.keep comes in
      let begun = prefix_trans done.judged done.ordered.old.published ends.tried.published done.ordered.begun ends.grows in
      told_seen done.judged list.0 done.seen front list.1.0 (prefix_trans done.judged ends.tried.published list.0 begun list.1.1) done.shows
