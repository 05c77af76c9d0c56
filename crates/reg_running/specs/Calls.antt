-- What the calls of a pen, of a follower and of a view do, by what their contracts say: acts and deeds.
use Rattle.std.specs.Prelude.{◌≡◌, ◌⊎◌, ℕ, ◌<◌, List, [], ◌∷◌, ◌++◌, Option, map}
use Rattle.std.specs.Borrow.{Bor}
use mathlib.Core.List.{IsPrefix}
use Rattle.reg_records.specs.declared.record.Record.{Record}
use Rattle.reg_set.specs.LastRecords.{last_records}
use Rattle.reg_lookup.specs.Answers.{IsAnswer}
use Rattle.reg_lookup.specs.declared.answered.Answer.{Answer}
use Rattle.reg_lookup.specs.declared.query.Query.{Query}
use Rattle.reg_leader.specs.declared.command.Command.{Command}
use Rattle.reg_leader.specs.declared.reply.Reply.{Reply}
use Rattle.reg_leader.specs.declared.reply.Reply.TheVariants as replies
use Rattle.reg_topic.specs.Topic.{IsLawful, after_items}
use Rattle.reg_topic.specs.declared.published.Item.{Item}
use Rattle.reg_topic.specs.declared.topic.Topic.{Topic}
use Rattle.reg_shared.specs.Held.{Held}
use Rattle.reg_pen.specs.Pen.{CompactsOrNot, IsDeclined, IsNoMemory, IsPen, PenState, Submits}
use Rattle.reg_pen.specs.declared.keep.Kept.{Kept}
use Rattle.reg_node.specs.Takes.{AreDrawnFrom, taken}
use Rattle.reg_node.specs.declared.take.Draw.{Draw}
use Rattle.reg_desk.specs.Desk.{IsWritten}
use Rattle.reg_running.specs.Running.{Act, AreActs, Carried, Deed, Drew, IsRunningNode, Told, published, draws}

-- these acts, done by a pen with so many nodes, made the one list the other
pub record Added (count : ℕ) (base : Topic) (before after : List Item) (acts : List Act) : Type 0 where
  pub are : AreActs count (after_items base before) acts
  pub list : after ≡ before ++ published acts

-- calls one after the other add their acts one after the other
abbrev pub ActsAddUp : Type 0
ActsAddUp = (count : ℕ) (base : Topic) (before mid after : List Item) (acts more : List Act)
    → Added count base before mid acts
    → Added count base mid after more
    → Added count base before after (acts ++ more)

-- why a caller got no outcome: memory was refused; a batch isn't settled, its own or one before it; or the keep declined its batch. What a
-- step refuses by itself is an outcome, also that no number is left
abbrev pub IsNoOutcome : {K : Type 0} → (K → List Record → Kept → K → Type 0) → Topic → List Item → Command → Reply → Type 0
IsNoOutcome keeps base after command reply =
    IsNoMemory reply ⊎ ((offset : ℕ) × (reply ≡ replies.Unsettled offset)) ⊎ IsDeclined keeps base after command reply

-- the caller got the outcome of the last act, or none; the list is then that one
abbrev pub IsToldOf : {K : Type 0} → (K → List Record → Kept → K → Type 0) → Topic → List Act → ℕ → List Item → Command → Reply → Type 0
IsToldOf keeps base acts node after command reply =
    ((before : List Act) × (batch : List Record) × (acts ≡ before ++ Carried node command reply batch ∷ []))
    ⊎ IsNoOutcome keeps base after command reply

-- a submit of a node: what was pending may be published by it, and then its own command is carried out, with the reply that its caller got
abbrev pub SubmitsAreActs : {K : Type 0} → (K → List Record → Kept → K → Type 0) → Type 0
SubmitsAreActs {K} keeps = (base : Topic) (since : Option (Bor (List Item))) (l m : PenState K) (command : Command)
    (reply : Reply) (count node : ℕ)
    → node < count → IsPen base l.published l.pending → Submits keeps base since l command reply m
    → (acts : List Act) × Added count base l.published m.published acts × IsToldOf keeps base acts node m.published command reply

abbrev pub CompactionsAreActs : Type 0 → Type 0
CompactionsAreActs K = (base : Topic) (floor : ℕ) (l m : PenState K) (count : ℕ)
    → 0 < count
    → IsPen base l.published l.pending
    → CompactsOrNot base floor l m
    → (acts : List Act) × Added count base l.published m.published acts

-- a command that a desk submitted, of a node or over the topic's list: what was pending may be published by it, and then the command is
-- carried out, with the reply that its client got; then acts of the compaction that followed, if one did
abbrev pub DesksDoActs : {K : Type 0} → (K → List Record → Kept → K → Type 0) → Type 0
DesksDoActs {K} keeps = (base : Topic) (before : Option (List Item)) (command : Command) (reply : Reply) (front : List Item) (count node : ℕ)
    → node < count → (written : IsWritten keeps base before command reply front)
    → (acts : List Act) × Added count base written.submitted.old.published written.told acts
    × IsToldOf keeps base acts node written.told command reply
    × ((more : List Act) × Added count base written.told written.submitted.new.published more)

-- what a pen keeps stays so at each call, so it holds of each pen that was opened over an adopted base
abbrev pub CallsKeepPens : {K : Type 0} → (K → List Record → Kept → K → Type 0) → Type 0
CallsKeepPens {K} keeps = (base : Topic) (since : Option (Bor (List Item))) (l m : PenState K) (command : Command)
    (reply : Reply) (floor : ℕ) → IsPen base l.published l.pending
    → Submits keeps base since l command reply m ⊎ CompactsOrNot base floor l m → IsPen base m.published m.pending

-- each lawful list is published by acts, and these publish nothing else
abbrev pub LawfulListsAreOfActs : Type 0
LawfulListsAreOfActs = (base : Topic) (items : List Item) (count : ℕ)
    → 0 < count
    → IsLawful base items
    → (acts : List Act) × AreActs count base acts × (published acts ≡ items)

abbrev pub ActsAreLawful : Type 0
ActsAreLawful = (base : Topic) (acts : List Act) (count : ℕ) → AreActs count base acts → IsLawful base (published acts)

-- a follower's list that is drawn from a front of the topic's list is that of a node
abbrev pub FollowersAreNodes : Type 0
FollowersAreNodes = (first : Held) (items front : List Item) (list : List Draw)
    → IsPrefix front items
    → AreDrawnFrom first list front
    → IsRunningNode first items (map Drew list) × (draws (map Drew list) ≡ list)

-- an answer of a view that saw a front of its node's list is one that the node told then
abbrev pub ViewsTellForNodes : Type 0
ViewsTellForNodes = (first : Held) (items : List Item) (deeds : List Deed) (seen : List Draw) (query : Query) (answer : Answer)
    → IsRunningNode first items deeds
    → IsPrefix seen (draws deeds)
    → IsAnswer (last_records (taken seen)) query answer
    → (before after : List Deed) × (deeds ≡ before ++ after) × (draws before ≡ seen)
    × IsRunningNode first items (before ++ Told query answer ∷ after)
