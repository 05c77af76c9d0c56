-- Pens over a log that others write too, as processes that take part in one chain.
use Rattle.std.specs.Prelude.{◌≡◌, ◌≤◌, ◌↔◌, ℕ, length, List, [], ◌++◌, Bool, false}
use mathlib.Core.List.{IsPrefix}
use Rattle.reg_records.specs.declared.record.Record.{Record}
use Rattle.reg_floored.specs.Compaction.{IsCompactionOf}
use Rattle.reg_topic.specs.Topic.{IsAdopted}
use Rattle.reg_topic.specs.declared.published.Item.{Item}
use Rattle.reg_topic.specs.declared.topic.Topic.{Topic}
use Rattle.reg_leader.specs.Step.{IsStep}
use Rattle.reg_leader.specs.declared.command.Command.{Command}
use Rattle.reg_leader.specs.declared.reply.Reply.{Reply}
use Rattle.reg_lookup.specs.Answers.{IsAnswer}
use Rattle.reg_lookup.specs.declared.answered.Answer.{Answer}
use Rattle.reg_lookup.specs.declared.query.Query.{Query}
use Rattle.reg_responses.specs.Response.{answer_text}
use Rattle.reg_pen.specs.Pen.{IsPen, PenState}
use Rattle.reg_join.specs.Joined.{IsJoined}
use Rattle.reg_join.specs.declared.join_keep.JoinKeep.{JoinKeep}
use Rattle.reg_join.specs.declared.join_keep.Stand.TheVariants.{Level}
use Rattle.reg_processes.specs.Laws.{IdsAreForBoth}
use Rattle.reg_processes.specs.Process.{Process, TakesPart, registry, taken_by, whole_of}

-- the process of a base that stands for those batches, and of a list
abbrev pub process_of : List (List Record) → Topic → List Item → Process
process_of early base is = record { early = early; base = base; items = is }

module _ {C : Type 0} (told : C → List (List Record)) where
  -- the pen is over a base that stands for the log's first batches, and these with what its chain told are a beginning of the log
  pub record Joins (log early : List (List Record)) (base : Topic) (l : PenState (JoinKeep C)) : Type 0 where
    pub pen : IsPen base l.published l.pending
    pub joined : IsJoined told l
    pub stands : IsCompactionOf base.kept (whole_of early)
    pub begins : IsPrefix (early ++ told l.keep.chain) log

  -- a pen that begins over such a base, with a chain that told nothing yet, joins
  abbrev pub NewPensJoin : Type 0
  NewPensJoin = (log early : List (List Record)) (base : Topic) (keep : JoinKeep C) → IsAdopted base → IsCompactionOf base.kept (whole_of early)
      → IsPrefix early log → told keep.chain ≡ [] → keep.stand ≡ Level
      → Joins log early base (record { published = []; pending = []; lost = false; keep = keep })

  -- a pen takes part in the log, with what is pending, which stands there
  abbrev pub PensTakePart : Type 0
  PensTakePart = (log early : List (List Record)) (base : Topic) (l : PenState (JoinKeep C)) → Joins log early base l
      → TakesPart log (process_of early base (l.published ++ l.pending))

  -- and so do its readers, who see what is published
  abbrev pub ReadersTakePart : Type 0
  ReadersTakePart = (log early : List (List Record)) (base : Topic) (l : PenState (JoinKeep C)) → Joins log early base l
      → TakesPart log (process_of early base l.published)

  -- where a pen's keep has taken all that its chain told, the pen took that
  abbrev pub LevelPensTookAll : Type 0
  LevelPensTookAll = (log early : List (List Record)) (base : Topic) (l : PenState (JoinKeep C)) → Joins log early base l
      → l.keep.stand ≡ Level → taken_by (process_of early base (l.published ++ l.pending)) ≡ early ++ told l.keep.chain

-- Two pens over one log, whatever their bases, and each over a chain of its own kind.
module _ {C D : Type 0} (told : C → List (List Record)) (tells : D → List (List Record)) where
  -- readers of pens that have published as many batches of the log give each answer by the same bytes
  abbrev pub PensGiveSameBytes : Type 0
  PensGiveSameBytes = (log early others : List (List Record)) (base other_base : Topic) (l : PenState (JoinKeep C)) (m : PenState (JoinKeep D))
      → Joins told log early base l → Joins tells log others other_base m
      → length (taken_by (process_of early base l.published)) ≡ length (taken_by (process_of others other_base m.published))
      → (query : Query) (one other : Answer)
      → IsAnswer (registry (process_of early base l.published)) query one
      → IsAnswer (registry (process_of others other_base m.published)) query other
      → (closes : Bool) → answer_text closes one ≡ answer_text closes other

  -- two desks, each of which has seen a beginning of its pen's list: where these have as many batches of the log, the desks give each answer
  -- by the same bytes
  abbrev pub DesksGiveSameBytes : Type 0
  DesksGiveSameBytes = (log early others : List (List Record)) (base other_base : Topic) (l : PenState (JoinKeep C)) (m : PenState (JoinKeep D))
      (seen other_seen : List Item) → Joins told log early base l → Joins tells log others other_base m
      → IsPrefix seen l.published → IsPrefix other_seen m.published
      → length (taken_by (process_of early base seen)) ≡ length (taken_by (process_of others other_base other_seen))
      → (query : Query) (one other : Answer)
      → IsAnswer (registry (process_of early base seen)) query one
      → IsAnswer (registry (process_of others other_base other_seen)) query other
      → (closes : Bool) → answer_text closes one ≡ answer_text closes other

  -- and they decide each command alike, at each next offset: reply, a refusal too, and batch are the same
  abbrev pub DesksStepAlike : Type 0
  DesksStepAlike = (log early others : List (List Record)) (base other_base : Topic) (l : PenState (JoinKeep C)) (m : PenState (JoinKeep D))
      (seen other_seen : List Item) → Joins told log early base l → Joins tells log others other_base m
      → IsPrefix seen l.published → IsPrefix other_seen m.published
      → length (taken_by (process_of early base seen)) ≡ length (taken_by (process_of others other_base other_seen))
      → (n : ℕ) (c : Command) (reply : Reply) (batch : List Record)
      → IsStep (registry (process_of early base seen)) n c reply batch ↔ IsStep (registry (process_of others other_base other_seen)) n c reply batch

  -- no id names two schemas with two of them, at whatever moments, where neither's base stands for more batches than the other took
  abbrev pub NoIdNamesTwoWithPens : Type 0
  NoIdNamesTwoWithPens = (log early others : List (List Record)) (base other_base : Topic) (l : PenState (JoinKeep C)) (m : PenState (JoinKeep D))
      → Joins told log early base l → Joins tells log others other_base m
      → length early ≤ length (taken_by (process_of others other_base (m.published ++ m.pending)))
      → length others ≤ length (taken_by (process_of early base (l.published ++ l.pending)))
      → IdsAreForBoth (process_of early base (l.published ++ l.pending)) (process_of others other_base (m.published ++ m.pending))
