-- What a topic's pen and its nodes did, each in its own order.
use Rattle.std.specs.Prelude.{◌≡◌, ◌<◌, ℕ, List, [], ◌∷◌, length, true}
use Rattle.std.specs.FinSet.{empty}
use Rattle.std.specs.List.{AllByRecursion, flat_map}
use mathlib.Core.List.{IsPrefix}
use Rattle.reg_records.specs.declared.record.Record.{Record}
use Rattle.reg_set.specs.LastRecords.{last_records}
use Rattle.reg_set.specs.Records.{Records}
use Rattle.reg_lookup.specs.Answers.{IsAnswer}
use Rattle.reg_lookup.specs.declared.answered.Answer.{Answer}
use Rattle.reg_lookup.specs.declared.query.Query.{Query}
use Rattle.reg_leader.specs.Step.{IsStep}
use Rattle.reg_leader.specs.declared.command.Command.{Command}
use Rattle.reg_leader.specs.declared.reply.Reply.{Reply}
use Rattle.reg_topic.specs.Topic.{IsAdopted, after_items, may_compact, registry_of}
use Rattle.reg_topic.specs.declared.published.Compaction.{Compaction}
use Rattle.reg_topic.specs.declared.published.Item.{Item}
use Rattle.reg_topic.specs.declared.published.Item.TheVariants as items
use Rattle.reg_topic.specs.declared.topic.Topic.{Topic}
use Rattle.reg_shared.specs.Held.{Held, base_of}
use Rattle.reg_pen.specs.Pen.{item_of}
use Rattle.reg_node.specs.Takes.{AreDrawnFrom, with_draw}
use Rattle.reg_node.specs.declared.take.Draw.{Draw}

-- what the pen did: it carried out a command of a node, with that reply and batch, or it compacted the kept set
pub data Act : Type 0 where
  Carried : (node : ℕ) (command : Command) (reply : Reply) (batch : List Record) → Act
  Dropped : (compaction : Compaction) → Act

-- what a node did: it drew from the topic, or it told an answer
pub data Deed : Type 0 where
  Drew : (draw : Draw) → Deed
  Told : (query : Query) (answer : Answer) → Deed

-- what was done since the start, over that beginning: by the pen, and by each node
pub record Running : Type 0 where
  pub first : Held
  pub acts : List Act
  pub nodes : List (List Deed)

-- the item that an act published; a command that wrote nothing published none
abbrev pub items_of : Act → List Item
items_of (Carried node command reply batch) = item_of command batch
items_of (Dropped c) = items.Compaction c ∷ []

-- the topic's list
abbrev pub published : List Act → List Item
published acts = flat_map items_of acts

abbrev pub draw_of : Deed → List Draw
draw_of (Drew draw) = draw ∷ []
draw_of (Told query answer) = []

-- the node's list
abbrev pub draws : List Deed → List Draw
draws deeds = flat_map draw_of deeds

-- a command of one of so many nodes, with the reply and the batch of its step from exactly this log, or a compaction that may be
abbrev pub IsAct : ℕ → Topic → Act → Type 0
IsAct count t (Carried node command reply batch) = (node < count) × IsStep (registry_of t) t.next command reply batch
IsAct count t (Dropped c) = may_compact t c ≡ true

-- each act follows on what those before it published
abbrev pub AreActs : ℕ → Topic → List Act → Type 0
AreActs count t [] = Unit {0}
AreActs count t (a ∷ acts) = IsAct count t a × AreActs count (after_items t (items_of a)) acts

-- each answer is that of these records, and of all that the node drew before it
abbrev pub AreAnswers : Records → List Deed → Type 0
AreAnswers set [] = Unit {0}
AreAnswers set (Drew draw ∷ deeds) = AreAnswers (with_draw set draw) deeds
AreAnswers set (Told query answer ∷ deeds) = IsAnswer (last_records set) query answer × AreAnswers set deeds

-- the draws are those of a follower that read some front of the topic's list, and each answer is that of the draws before it
pub record IsRunningNode (first : Held) (items : List Item) (deeds : List Deed) : Type 0 where
  pub front : List Item
  pub read : IsPrefix front items
  pub drawn : AreDrawnFrom first (draws deeds) front
  pub answers : AreAnswers empty deeds

pub record IsRunning (r : Running) : Type 0 where
  pub adopted : IsAdopted (base_of r.first)
  pub acts : AreActs (length r.nodes) (base_of r.first) r.acts
  pub nodes : AllByRecursion (IsRunningNode r.first (published r.acts)) r.nodes
