-- What processes that take part in one chain say.
use Rattle.std.specs.Prelude.{◌≡◌, ◌<◌, ◌≤◌, ◌↔◌, ℕ, length, List, [], ◌∷◌, Bool}
use Rattle.std.specs.FinSet.{items}
use Rattle.std.specs.List.{Contains}
use mathlib.Core.List.{IsPrefix}
use Rattle.reg_alike.specs.reg_entries.declared.entry.Entry.{Entry}
use Rattle.reg_alike.specs.reg_fold.Entries.{entries}
use Rattle.reg_alike.specs.reg_fold.GiveAlike.{GiveAlike}
use Rattle.reg_alike.specs.reg_records.declared.record.Record.{Record}
use Rattle.reg_alike.specs.reg_set.LastRecords.{last_records}
use Rattle.reg_alike.specs.reg_floored.Compaction.{IsCompactionOf}
use Rattle.reg_alike.specs.reg_leader.Step.{IsStep}
use Rattle.reg_alike.specs.reg_leader.declared.command.Command.{Command}
use Rattle.reg_alike.specs.reg_leader.declared.reply.Reply.{Reply}
use Rattle.reg_alike.specs.reg_lookup.Answers.{IsAnswer, IsAnswerOver}
use Rattle.reg_alike.specs.reg_lookup.declared.answered.Answer.{Answer}
use Rattle.reg_alike.specs.reg_lookup.declared.query.Query.{Query}
use Rattle.reg_topic.specs.Topic.{IsAdopted, IsLawful}
use Rattle.reg_topic.specs.declared.published.Item.{Item}
use Rattle.reg_topic.specs.declared.topic.Topic.{Topic}
use Rattle.reg_responses.specs.Response.{answer_text}
use Rattle.reg_processes.specs.Process.{Process, TakesPart, batches_in, kept_base, registry, taken_by, topic_of, when, whole_of}

-- at each moment since its base a process takes part, too
abbrev pub FrontsTakePart : Type 0
FrontsTakePart = (chain : List (List Record)) (p : Process) → TakesPart chain p → (front : List Item) → IsPrefix front p.items
    → TakesPart chain (when p front)

-- at its base's floor the log of a process is a compaction of the batches that it took
abbrev pub LogsAreCompactions : Type 0
LogsAreCompactions = (chain : List (List Record)) (p : Process) → TakesPart chain p
    → IsCompactionOf (record { records = (topic_of p).log; floor = p.base.kept.floor }) (whole_of (taken_by p))

-- so its registry has the same entries, levels, modes and marks as one over all records of those batches
abbrev pub RegistriesGiveTheWhole : Type 0
RegistriesGiveTheWhole = (chain : List (List Record)) (p : Process) → TakesPart chain p
    → GiveAlike (registry p) (last_records (whole_of (taken_by p)).records)

-- and each query has the same answers over both
abbrev pub AnswersAreOfTheWhole : Type 0
AnswersAreOfTheWhole = (chain : List (List Record)) (p : Process) → TakesPart chain p → (query : Query) (a : Answer)
    → IsAnswer (registry p) query a ↔ IsAnswerOver (whole_of (taken_by p)).records query a

-- and so has each command, at each next offset, the same reply and the same batch
abbrev pub StepsAreOfTheWhole : Type 0
StepsAreOfTheWhole = (chain : List (List Record)) (p : Process) → TakesPart chain p → (n : ℕ) (c : Command) (reply : Reply) (batch : List Record)
    → IsStep (registry p) n c reply batch ↔ IsStep (last_records (whole_of (taken_by p)).records) n c reply batch

-- two processes that took as many batches of one chain, whatever their bases and what each of them compacted
pub record TookAsMuch (p q : Process) : Type 0 where
  pub chain : List (List Record)
  pub one : TakesPart chain p
  pub other : TakesPart chain q
  pub as_many : length (taken_by p) ≡ length (taken_by q)

-- their registries have the same entries, levels, modes and marks
abbrev pub SameLogsGiveAlike : Type 0
SameLogsGiveAlike = (p q : Process) → TookAsMuch p q → GiveAlike (registry p) (registry q)

-- they answer each query alike
abbrev pub SameLogsAnswerAlike : Type 0
SameLogsAnswerAlike = (p q : Process) → TookAsMuch p q → (query : Query) (one other : Answer)
    → IsAnswer (registry p) query one → IsAnswer (registry q) query other → one ≡ other

-- by one response, head and body, where both close the connection or neither does
abbrev pub SameLogsGiveSameBytes : Type 0
SameLogsGiveSameBytes = (p q : Process) → TookAsMuch p q → (query : Query) (one other : Answer)
    → IsAnswer (registry p) query one → IsAnswer (registry q) query other → (closes : Bool) → answer_text closes one ≡ answer_text closes other

-- and they decide each command alike, at each next offset: reply and batch are the same
abbrev pub SameLogsStepAlike : Type 0
SameLogsStepAlike = (p q : Process) → TookAsMuch p q → (n : ℕ) (c : Command) (reply : Reply) (batch : List Record)
    → IsStep (registry p) n c reply batch ↔ IsStep (registry q) n c reply batch

-- two entries of one id, of which one stood with the first process at some moment and one with the second, have one schema
abbrev pub IdsAreForBoth : Process → Process → Type 0
IdsAreForBoth p q = (front back : List Item) → IsPrefix front p.items → IsPrefix back q.items → (e f : Entry)
    → Contains (entries (registry (when p front))) e → Contains (entries (registry (when q back))) f → e.id ≡ f.id → e.normal ≡ f.normal

-- a process took that batch of the chain, counted from 0, behind those that its base stands for: it had decided the batch itself
pub record IsDecided (chain : List (List Record)) (k : ℕ) : Type 0 where
  pub by : Process
  pub takes_part : TakesPart chain by
  pub behind : length by.early ≤ k
  pub taken : k < length (taken_by by)

-- so it is of any two processes of a chain of which each batch was decided, by whomever, from those on for which their bases stand: whoever
-- else writes, no id names two schemas
abbrev pub NoIdNamesTwoSchemas : Type 0
NoIdNamesTwoSchemas = (chain : List (List Record)) (start : ℕ) → ((k : ℕ) → start ≤ k → k < length chain → IsDecided chain k)
    → (p q : Process) → TakesPart chain p → TakesPart chain q → start ≤ length p.early → start ≤ length q.early → IdsAreForBoth p q

-- and so it is of two processes alone where neither's base stands for more batches than the other took
abbrev pub IdsAreForTwo : Type 0
IdsAreForTwo = (chain : List (List Record)) (p q : Process) → TakesPart chain p → TakesPart chain q
    → length p.early ≤ length (taken_by q) → length q.early ≤ length (taken_by p) → IdsAreForBoth p q

-- each lawful list over an adopted base takes part in a chain: the base's records, and then its batches
abbrev pub LawfulListsTakePart : Type 0
LawfulListsTakePart = (base : Topic) (is : List Item) → IsAdopted base → IsLawful base is
    → TakesPart (items base.log ∷ batches_in is) (record { early = items base.log ∷ []; base = base; items = is })

-- what a process kept begins another one, whose base stands for all that the first one took
abbrev pub KeptSetsBegin : Type 0
KeptSetsBegin = (chain : List (List Record)) (p : Process) → TakesPart chain p
    → TakesPart chain (record { early = taken_by p; base = kept_base (topic_of p); items = [] })
