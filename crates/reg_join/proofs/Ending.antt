-- What comes of a submit where all is taken that was told.
use Rattle.std.proofs.Common.{◌≡◌, ◌⊎◌, inl, inr, ℕ, Bool, true, false, List, ◌∷◌, [], ◌++◌, Option, Some, None, MatchBool, refl, sym, ap, subst, ◌∙◌, append-nil, true≢false}
use Rattle.std.specs.Borrow.{Bor}
use mathlib.Core.List.{IsPrefix}
use Rattle.reg_records.specs.declared.record.Record.{Record}
use Rattle.reg_leader.specs.declared.command.Command.{Command}
use Rattle.reg_leader.specs.declared.command.Command.TheVariants as commands
use Rattle.reg_leader.specs.declared.reply.Reply.{Reply}
use Rattle.reg_leader.specs.declared.reply.Reply.TheVariants as replies
use Rattle.reg_topic.specs.declared.published.Item.{Item}
use Rattle.reg_topic.specs.declared.topic.Topic.{Topic}
use Rattle.reg_pen.specs.Pen.{Acts, Follows, IsNoMemory, IsStepAfter, PenState, StillPends, Submits, item_of, settled}
use Rattle.reg_pen.specs.Writing.{SubmitsAndCompacts}
use Rattle.reg_pen.specs.declared.keep.Kept.{Kept}
use Rattle.reg_join.specs.Ending.{Asked, ChecksAfter, ComesTo, Concludes, Ends, IsAtItsPlace, IsUnwritten, MayEnd, RepliedAs, RepliesAreAtTheirPlaces, Tried, batch_outcome, check_outcome, settled_outcome, unchecked_outcome, live_outcome, whole_list}
use Rattle.reg_join.specs.Joined.{IsJoined, batches_of}
use Rattle.reg_join.specs.Joining.{AreTakenAt, Asks, AsksNothing, Checks, ChecksAt, JoinKeeps, KeepsAt, kept_of}
use Rattle.reg_join.specs.Memory.{is_no_memory}
use Rattle.reg_chain.specs.declared.chain.ChainAnswer.{ChainAnswer}
use Rattle.reg_chain.specs.declared.chain.ChainAnswer.TheVariants as answered
use Rattle.reg_join.specs.declared.commanding.JoinOutcome.{JoinOutcome}
use Rattle.reg_join.specs.declared.commanding.JoinOutcome.TheVariants as outcomes
use Rattle.reg_join.specs.declared.join_keep.JoinKeep.{JoinKeep}
use Rattle.reg_join.specs.declared.join_keep.Stand.{Stand}
use Rattle.reg_join.specs.declared.join_keep.Stand.TheVariants.{Level}
use Rattle.reg_join.proofs.TakingIn.{compacted_after, prefix_trans}

module _ {C : Type 0} (told : C → List (List Record)) (answers : C → List Record → ChainAnswer → C → Type 0) (base : Topic) where
  -- by the answer: the keep, and the reply
  abbrev Follow : ChainAnswer → Reply → Record → Reply → PenState (JoinKeep C) → Command → List Record → JoinKeep C → PenState (JoinKeep C) → Type 0
  Follow answer replied first reply l c rest keep m =
      (m.keep ≡ keep) × RepliedAs told answers base answer replied first reply (whole_list l ++ item_of c (first ∷ rest)) m.published

  follow : (answer : ChainAnswer) (replied : Reply) (first : Record) (reply : Reply) (l : PenState (JoinKeep C)) (c : Command) (rest : List Record)
      (keep : JoinKeep C) (m : PenState (JoinKeep C))
      → Follows (kept_of answer) (item_of c (first ∷ rest)) replied (replies.Unsettled first.offset) (record (settled l) { keep = keep }) reply m
      → Follow answer replied first reply l c rest keep m
  follow answered.Kept replied first reply l c rest keep m (inl done) =
      (ap (λ (s : PenState (JoinKeep C)). s.keep) done.1, inl (done.0, ap (λ (s : PenState (JoinKeep C)). s.published) done.1))
  follow answered.Kept replied first reply l c rest keep m (inr left) = (ap (λ (s : PenState (JoinKeep C)). s.keep) left.1, inr left.0)
  follow answered.Behind replied first reply l c rest keep m h = (ap (λ (s : PenState (JoinKeep C)). s.keep) h.1, tt)
  follow answered.Declined replied first reply l c rest keep m h = (ap (λ (s : PenState (JoinKeep C)). s.keep) h.1, tt)
  follow answered.Unknown replied first reply l c rest keep m h = (ap (λ (s : PenState (JoinKeep C)). s.keep) h.1, h.0)

  module _ (l : PenState (JoinKeep C)) (c : Command) (reply : Reply) (before : told l.keep.chain ≡ batches_of l) where
    -- what was tried, with the keep's last answer
    abbrev WasTried : PenState (JoinKeep C) → Type 0
    WasTried m = ((IsUnwritten told answers base l c reply m.published ⊎ IsNoMemory reply) × (m.keep ≡ l.keep))
        ⊎ ((answer : ChainAnswer) × (m.keep.last ≡ Some answer) × Asked told answers base l c reply m.published answer m.keep)

    asked : (replied : Reply) (first : Record) (rest : List Record) (kept : Kept) (keep : JoinKeep C) (m : PenState (JoinKeep C))
        (asks : Asks told answers l.keep (first ∷ rest) kept keep)
        → IsStepAfter base (whole_list l) c replied (first ∷ rest)
        → Follow asks.answer replied first reply l c rest keep m → WasTried m
    asked replied first rest kept keep m asks step f = inr (
      asks.answer,
      ap (λ (k : JoinKeep C). k.last) f.0 ∙ asks.last,
      subst (λ (k : JoinKeep C). Asked told answers base l c reply m.published asks.answer k) (sym f.0) (record {
        replied = replied;
        first = first;
        rest = rest;
        before = before;
        step = step;
        means = asks.means;
        tells = asks.tells;
        count = asks.counts;
        replies_as = f.1;
      }),
    )

    acted : (m : PenState (JoinKeep C)) → l.keep.stand ≡ Level → Acts (JoinKeeps told answers) base (settled l) c reply m → WasTried m
    acted m level (inl none) = inl (
      inl (record {
        before = before;
        step = none.0;
        shown = ap (λ (s : PenState (JoinKeep C)). s.published) none.1;
      }),
      ap (λ (s : PenState (JoinKeep C)). s.keep) none.1,
    )
    acted m level (inr (inl lends)) =
        let asks : Asks told answers l.keep (lends.first ∷ lends.rest) lends.kept lends.keep =
        subst (λ (s : Stand). KeepsAt told answers s l.keep (lends.first ∷ lends.rest) lends.kept lends.keep) level lends.lent in
        asked lends.replied lends.first lends.rest lends.kept lends.keep m asks lends.step
        (follow asks.answer lends.replied lends.first reply l c lends.rest lends.keep m
        (subst (λ (w : Kept).
        Follows w (item_of c (lends.first ∷ lends.rest)) lends.replied (replies.Unsettled lends.first.offset)
        (record (settled l) { keep = lends.keep }) reply m) asks.becomes lends.follows))
    acted m level (inr (inr none)) = inl (inr none.0, ap (λ (s : PenState (JoinKeep C)). s.keep) none.1)

    submitted : (since : Option (Bor (List Item))) (m : PenState (JoinKeep C)) → l.keep.stand ≡ Level → l.pending ≡ []
        → Submits (JoinKeeps told answers) base since l c reply m → WasTried m
    submitted since m level clear (inl ahead) = inl (inr ahead.1, ap (λ (s : PenState (JoinKeep C)). s.keep) ahead.2)
    submitted since m level clear (inr (behind, inl still)) =
        absurd (subst (λ (is : List Item). StillPends is reply) clear still.0)
    submitted since m level clear (inr (behind, inr acts)) = acted m level acts.1

    -- what is known of the keep, by its last answer
    by_last : (seen : List Item) (k : JoinKeep C) (mid : PenState (JoinKeep C)) → l.keep.last ≡ None → seen ≡ mid.published → k ≡ mid.keep
        → WasTried mid → Tried told answers base k.last l c reply seen k
    by_last seen k mid none shown same (inl (inl unwritten, keeps)) =
        subst (λ (o : Option ChainAnswer). Tried told answers base o l c reply seen k)
        (sym (ap (λ (j : JoinKeep C). j.last) (same ∙ keeps) ∙ none))
        (inl (subst (λ (is : List Item). IsUnwritten told answers base l c reply is) (sym shown) unwritten), same ∙ keeps)
    by_last seen k mid none shown same (inl (inr memory, keeps)) =
        subst (λ (o : Option ChainAnswer). Tried told answers base o l c reply seen k)
        (sym (ap (λ (j : JoinKeep C). j.last) (same ∙ keeps) ∙ none)) (inr memory, same ∙ keeps)
    by_last seen k mid none shown same (inr told_so) =
        subst (λ (o : Option ChainAnswer). Tried told answers base o l c reply seen k)
        (sym (ap (λ (j : JoinKeep C). j.last) same ∙ told_so.1))
        (subst (λ (j : JoinKeep C). Asked told answers base l c reply seen told_so.0 j) (sym same)
        (subst (λ (is : List Item). Asked told answers base l c reply is told_so.0 mid.keep) (sym shown) told_so.2))

  -- all that was told is in the pen
  all_told : (l : PenState (JoinKeep C)) → IsJoined told l → l.keep.stand ≡ Level → told l.keep.chain ≡ batches_of l
  all_told l joined level = subst (λ (s : Stand). AreTakenAt told s (told l.keep.chain) (batches_of l)) level joined.taken

  pub tried : (since : Option (Bor (List Item))) (l : PenState (JoinKeep C)) (c : Command) (reply : Reply) (seen : List Item)
      (m : PenState (JoinKeep C)) → SubmitsAndCompacts (JoinKeeps told answers) base since l c reply seen m → IsJoined told l
      → l.keep.stand ≡ Level → l.keep.last ≡ None → l.pending ≡ [] → Tried told answers base m.keep.last l c reply seen m.keep
  tried since l c reply seen m done joined level none clear =
      by_last l c reply (all_told l joined level) seen m.keep done.submitted none done.tells
      (compacted_after told answers base since l m c reply seen done).keep
      (submitted l c reply (all_told l joined level) since done.submitted level clear done.submits)

  -- What is told then.
  module _ (l : PenState (JoinKeep C)) (c : Command) (seen : List Item) (k : JoinKeep C) where
    behind : (reply : Reply) → ((o : ℕ) → reply ≡ replies.Unsettled o → ⊥) → Asked told answers base l c reply seen answered.Kept k
        → (a : Asked told answers base l c reply seen answered.Kept k)
        → RepliedAs told answers base answered.Kept a.replied a.first reply (whole_list l ++ item_of c (a.first ∷ a.rest)) seen
        → ComesTo told answers base (outcomes.Replied reply) l c (Some seen) k
    behind reply settles b a (inl done) = inr (record {
      first = a.first;
      rest = a.rest;
      before = a.before;
      step = subst (λ (r : Reply). IsStepAfter base (whole_list l) c r (a.first ∷ a.rest)) (sym done.0) a.step;
      shown = ap (λ (is : List Item). Some is) done.1;
      kept = a.means;
      stands = a.tells ∙ ap (λ (bs : List (List Record)). bs ++ (a.first ∷ a.rest) ∷ []) a.before;
      count = a.count;
    })
    behind reply settles b a (inr left) = absurd (settles a.first.offset left)

    offset_is : (m n : ℕ) → replies.Unsettled m ≡ replies.Unsettled n → m ≡ n
    offset_is m n e = cc

    unsettled : (offset : ℕ) (a : Asked told answers base l c (replies.Unsettled offset) seen answered.Kept k)
        → RepliedAs told answers base answered.Kept a.replied a.first (replies.Unsettled offset) (whole_list l ++ item_of c (a.first ∷ a.rest)) seen
        → ComesTo told answers base (outcomes.Unsettled offset) l c (Some seen) k
    unsettled offset a (inl done) = record {
      replied = a.replied;
      first = a.first;
      rest = a.rest;
      before = a.before;
      step = a.step;
      tells = inr (sym done.0);
      asked = inl (a.means, a.count);
    }
    unsettled offset a (inr left) = record {
      replied = a.replied;
      first = a.first;
      rest = a.rest;
      before = a.before;
      step = a.step;
      tells = inl (offset_is offset a.first.offset left);
      asked = inl (a.means, a.count);
    }

    when_kept : (reply : Reply) → Asked told answers base l c reply seen answered.Kept k
        → ComesTo told answers base (settled_outcome reply) l c (Some seen) k
    when_kept (replies.Unsettled offset) a = unsettled offset a a.replies_as
    when_kept reply a = behind reply (λ o e. absurd (cc e)) a a a.replies_as

    when_unknown : (reply : Reply) → Asked told answers base l c reply seen answered.Unknown k
        → ComesTo told answers base (settled_outcome reply) l c (Some seen) k
    when_unknown (replies.Unsettled offset) a = record {
      replied = a.replied;
      first = a.first;
      rest = a.rest;
      before = a.before;
      step = a.step;
      tells = inl (offset_is offset a.first.offset a.replies_as);
      asked = inr (a.means, a.count);
    }
    when_unknown reply a = absurd (cc a.replies_as)

    by_answer : (answer : ChainAnswer) (reply : Reply) → Asked told answers base l c reply seen answer k
        → MayEnd told answers base (batch_outcome answer reply) l c (Some seen) k
    by_answer answered.Kept reply a = when_kept reply a
    by_answer answered.Behind reply a = a.count
    by_answer answered.Declined reply a = record {
      replied = a.replied;
      batch = a.first ∷ a.rest;
      before = a.before;
      step = a.step;
      said = inl a.means;
      count = a.count;
    }
    by_answer answered.Unknown reply a = when_unknown reply a

  -- after a check
  module _ (l : PenState (JoinKeep C)) (c : Command) (seen : List Item) (k : JoinKeep C) where
    abbrev no_records : List Record
    no_records = []

    -- the chain couldn't be asked
    abbrev NotSaid : Type 0
    NotSaid = answers l.keep.chain no_records answered.Declined k.chain
        ⊎ ((no_records ≡ no_records) × answers l.keep.chain no_records answered.Unknown k.chain)

    not_asked : (reply : Reply) → IsUnwritten told answers base l c reply seen
        → NotSaid
        → k.kept ≡ l.keep.kept → ComesTo told answers base outcomes.Declined l c (Some seen) k
    not_asked reply un said count = record {
      replied = reply;
      batch = [];
      before = un.before;
      step = un.step;
      said = said;
      count = count;
    }

    lives : (subject text : List ℕ) (reply : Reply) → c ≡ commands.Register subject text → IsUnwritten told answers base l c reply seen
        → NotSaid
        → told k.chain ≡ told l.keep.chain → k.kept ≡ l.keep.kept → ComesTo told answers base (live_outcome reply) l c (Some seen) k
    lives subject text (replies.Id id) is un said tells count = record {
      subject = subject;
      text = text;
      registers = is;
      before = un.before;
      step = un.step;
      same = tells ∙ un.before;
      count = count;
    }
    lives subject text reply is un said tells count = not_asked reply un said count

    unchecked : (d : Command) (reply : Reply) → c ≡ d → IsUnwritten told answers base l c reply seen
        → NotSaid
        → told k.chain ≡ told l.keep.chain → k.kept ≡ l.keep.kept → ComesTo told answers base (unchecked_outcome d reply) l c (Some seen) k
    unchecked (commands.Register subject text) reply is un said tells count = lives subject text reply is un said tells count
    unchecked d reply is un said tells count = not_asked reply un said count

    checked : (answer : ChainAnswer) (reply : Reply) → IsUnwritten told answers base l c reply seen
        → answers l.keep.chain [] answer k.chain → told k.chain ≡ told l.keep.chain → k.kept ≡ l.keep.kept
        → MayEnd told answers base (check_outcome answer c reply) l c (Some seen) k
    checked answered.Kept reply un means tells count = inl (record {
      before = un.before;
      step = un.step;
      shown = ap (λ (is : List Item). Some is) un.shown;
      checked = means;
      same = tells ∙ un.before;
      count = count;
    })
    checked answered.Behind reply un means tells count = count
    checked answered.Declined reply un means tells count = unchecked c reply refl un (inl means) tells count
    checked answered.Unknown reply un means tells count = unchecked c reply refl un (inr (refl, means)) tells count

  -- a refusal for want of memory is known by its form
  not_memory : (reply : Reply) → is_no_memory reply ≡ false → IsNoMemory reply → ⊥
  not_memory reply other memory = true≢false (sym (ap is_no_memory memory) ∙ other)

  module _ (l : PenState (JoinKeep C)) (c : Command) (reply : Reply) (seen : List Item) (level : l.keep.stand ≡ Level) where
    after_check : (k k' : JoinKeep C) (outcome : Option JoinOutcome) → is_no_memory reply ≡ false
        → IsUnwritten told answers base l c reply seen ⊎ IsNoMemory reply → k ≡ l.keep → ChecksAfter told answers base k c reply outcome k'
        → MayEnd told answers base outcome l c (Some seen) k'
    after_check k k' outcome other (inr memory) same after = absurd (not_memory reply other memory)
    after_check k k' outcome other (inl un) same after =
        let asks : AsksNothing told answers l.keep after.answer k' =
        subst (λ (s : Stand). ChecksAt told answers s l.keep after.answer k') level
        (subst (λ (j : JoinKeep C). Checks told answers j after.answer k') same after.checks) in
        subst (λ (o : Option JoinOutcome). MayEnd told answers base o l c (Some seen) k') (sym after.told_by)
        (checked l c seen k' after.answer reply un asks.means asks.tells
        (after.own.kept ∙ ap (λ (j : JoinKeep C). j.kept) same))

    alone : (b : Bool) (k k' : JoinKeep C) (outcome : Option JoinOutcome) → is_no_memory reply ≡ b
        → (IsUnwritten told answers base l c reply seen ⊎ IsNoMemory reply) × (k ≡ l.keep)
        → MatchBool b ((outcome ≡ Some outcomes.NoMemory) × (k' ≡ k)) (ChecksAfter told answers base k c reply outcome k')
        → MayEnd told answers base outcome l c (Some seen) k'
    alone true k k' outcome is tried memory =
        subst (λ (o : Option JoinOutcome). MayEnd told answers base o l c (Some seen) k') (sym memory.0)
        (ap (λ (j : JoinKeep C). j.kept) (memory.1 ∙ tried.1))
    alone false k k' outcome is tried after = after_check k k' outcome is tried.0 tried.1 after

    pub may_end : (last : Option ChainAnswer) (k k' : JoinKeep C) (outcome : Option JoinOutcome) → Tried told answers base last l c reply seen k
        → Concludes told answers base last k c reply outcome k' → MayEnd told answers base outcome l c (Some seen) k'
    may_end None k k' outcome tried concludes = alone (is_no_memory reply) k k' outcome refl tried concludes
    may_end (Some answer) k k' outcome tried concludes =
        subst (λ (o : Option JoinOutcome). MayEnd told answers base o l c (Some seen) k') (sym concludes.0)
        (subst (λ (j : JoinKeep C). MayEnd told answers base (batch_outcome answer reply) l c (Some seen) j) (sym concludes.1)
        (by_answer l c seen k answer reply tried))

  -- a try behind others that came to nothing
  pub ends_later : (old mid new : PenState (JoinKeep C)) (c : Command) (outcome : JoinOutcome) (seen : Option (List Item))
      → IsPrefix old.published mid.published → mid.keep.kept ≡ old.keep.kept → Ends told answers base mid c outcome seen new
      → Ends told answers base old c outcome seen new
  ends_later old mid new c outcome seen grows same ends = record {
    tried = ends.tried;
    grows = prefix_trans old.published mid.published ends.tried.published grows ends.grows;
    none_kept = ends.none_kept ∙ same;
    comes = ends.comes;
  }

  -- Replies at their places.
  at_place : (l : PenState (JoinKeep C)) (c : Command) (reply : Reply) (seen : Option (List Item)) (k : JoinKeep C)
      → ComesTo told answers base (outcomes.Replied reply) l c seen k → IsAtItsPlace told answers base l c reply seen k
  at_place l c reply seen k (inl alone) = record {
    batch = [];
    before = alone.before;
    step = alone.step;
    kept = alone.checked;
    after = alone.same ∙ sym (append-nil (batches_of l));
    shown = alone.shown ∙ ap (λ (is : List Item). Some is) (sym (append-nil (whole_list l)));
  }
  at_place l c reply seen k (inr behind) = record {
    batch = behind.first ∷ behind.rest;
    before = behind.before;
    step = behind.step;
    kept = behind.kept;
    after = behind.stands;
    shown = behind.shown;
  }

  pub at_their_places : RepliesAreAtTheirPlaces told answers base
  at_their_places old c reply seen new ends = at_place ends.tried c reply seen new.keep ends.comes
