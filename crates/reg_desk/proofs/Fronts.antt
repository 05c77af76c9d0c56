-- What desks over a feed have seen.
use Rattle.std.proofs.Common.{◌≡◌, ◌⊎◌, ℕ, List, [], ◌∷◌, Some, IfOk, Result, sym, subst}
use Rattle.std.specs.List.{AllByRecursion}
use Rattle.std.specs.declared.alloc.AllocError.{AllocError}
use mathlib.Core.List.{IsPrefix}
use Rattle.reg_records.specs.declared.record.Record.{Record}
use Rattle.reg_set.specs.LastRecords.{last_records}
use Rattle.reg_set.specs.Records.{Records}
use Rattle.reg_feed.specs.Published.{WasPublished}
use Rattle.reg_lookup.specs.Answers.{IsAnswer}
use Rattle.reg_lookup.specs.declared.answered.Answer.{Answer}
use Rattle.reg_lookup.specs.declared.query.Query.{Query}
use Rattle.reg_leader.specs.declared.command.Command.{Command}
use Rattle.reg_leader.specs.declared.reply.Reply.{Reply}
use Rattle.reg_topic.specs.declared.published.Item.{Item}
use Rattle.reg_topic.specs.declared.topic.Topic.{Topic}
use Rattle.reg_pen.specs.declared.keep.Kept.{Kept}
use Rattle.reg_pen.specs.Pen.{counted}
use Rattle.reg_desk.specs.Desk.{Ask, Call, IsNext, IsWritten, Order}
use Rattle.reg_desk.specs.FeedDesk.{AreFeedTurns, AsksFeed, FeedTurn, PenCarries, Serves, ShowTheirWrites, Stands}
use Rattle.reg_desk.proofs.Fresh.{prefix_self, prefix_trans}
use Rattle.reg_desk.proofs.Told.{same_front}

module _ {T C : Type 0} (comes_to answers_for : List T → Records) (publishes : List T → Type 0)
    (carries : C → List T → Command → Reply → List T → C → Type 0) where
  grows : (before : Stands T C) (call : Call) (after : Stands T C) → Serves comes_to answers_for publishes carries before call after
      → IsPrefix before.front after.front
  grows before (Ask query answer) after does = does.longer
  grows before (Order command reply) after does = does.longer

  turns_show : (written front : List T) (turns : List (FeedTurn T C)) → IsPrefix written front
      → AreFeedTurns comes_to answers_for publishes carries front turns → AllByRecursion (λ t. IsPrefix written t.after.front) turns
  turns_show written front [] p are = tt
  turns_show written front (t ∷ ts) p are =
      let learnt = prefix_trans written front t.learnt.front p (are.0).that in
      let after = prefix_trans written t.learnt.front t.after.front learnt (grows t.learnt t.call t.after are.1) in
      (after, turns_show written t.after.front ts after are.2)

  pub show_theirs : ShowTheirWrites comes_to answers_for publishes carries
  show_theirs before call done turns does are = turns_show done.front done.front turns (prefix_self done.front) are

-- a query that is answered from a second look
pub asks_again : {T C : Type 0} (comes_to answers_for : List T → Records) (publishes : List T → Type 0) (inside before after : Stands T C)
    (mid : List T) (q : Query) (a : Result Answer AllocError) → inside ≡ before → IfOk a (IsAnswer (last_records (comes_to after.front)) q)
    → IfOk a (IsAnswer (answers_for after.front) q) → WasPublished publishes after.front → IsPrefix inside.front mid → IsPrefix mid after.front
    → after.commander ≡ inside.commander → AsksFeed comes_to answers_for publishes before q a after
asks_again {T} {C} comes_to answers_for publishes inside before after mid q a same answered for_all published one two commander =
    subst (λ (k : Stands T C). AsksFeed comes_to answers_for publishes k q a after) same (record {
      answered = answered;
      for_all = for_all;
      published = published;
      longer = prefix_trans inside.front mid after.front one two;
      same_commander = commander;
    })

-- what a pen does with a command that was judged over a list, by whoever holds a copy of that list's front
pub pen_carries : {K : Type 0} (keeps : K → List Record → Kept → K → Type 0) (base : Topic) (before after : ℕ)
    (since judged again told front : List Item) (c : Command) (reply : Reply) → IsPrefix since judged → again ≡ judged
    → after ≡ counted before → IsWritten keeps base (Some again) c reply told → IsNext keeps base again c reply told
    → (front ≡ judged) ⊎ (front ≡ told) → IsPrefix told front → PenCarries keeps base before since c reply front after
pen_carries keeps base before after since judged again told front c reply judges same counts written next one that =
    let next : IsNext keeps base judged c reply told = subst (λ (w : List Item). IsNext keeps base w c reply told) same next in
    let written : IsWritten keeps base (Some judged) c reply told = subst (λ (w : List Item). IsWritten keeps base (Some w) c reply told) same written in
    let ends : told ≡ front = sym (same_front judged told front one that next.grows) in record {
      counts = counts;
      judged = judged;
      judges = judges;
      written = subst (λ (w : List Item). IsWritten keeps base (Some judged) c reply w) ends written;
      next = subst (λ (w : List Item). IsNext keeps base judged c reply w) ends next;
    }
