-- What a submit does with the compaction that may follow on it.
use Rattle.std.specs.Prelude.{◌≡◌, ℕ, ◌/◌, Bool, List, Option, MatchBool, nat_lt}
use Rattle.std.specs.Borrow.{Bor}
use Rattle.reg_records.specs.declared.record.Record.{Record}
use Rattle.reg_leader.specs.declared.command.Command.{Command}
use Rattle.reg_leader.specs.declared.reply.Reply.{Reply}
use Rattle.reg_topic.specs.declared.published.Item.{Item}
use Rattle.reg_topic.specs.declared.topic.Topic.{Topic}
use Rattle.reg_pen.specs.Deletes.{floor_due}
use Rattle.reg_pen.specs.Pen.{CompactsOrNot, PenState, Submits, batches}
use Rattle.reg_pen.specs.declared.keep.Kept.{Kept}
use Rattle.reg_pen.specs.declared.writing.TheConstants.{BATCHES}

-- a count of batches reached or passed a multiple of 64 as it rose
abbrev pub passes_multiple : ℕ → ℕ → Bool
passes_multiple before after = nat_lt (before / BATCHES) (after / BATCHES)

module _ {K : Type 0} (keeps : K → List Record → Kept → K → Type 0) where
  -- the command is submitted, once, and the list that is told is the published one then; exactly where the count of batches reached or
  -- passed a multiple of 64 by that, a compaction follows, or its refusal, else nothing
  pub record SubmitsAndCompacts (base : Topic) (since : Option (Bor (List Item))) (l : PenState K) (c : Command) (reply : Reply)
      (told : List Item) (m : PenState K) : Type 0 where
    pub submitted : PenState K
    pub submits : Submits keeps base since l c reply submitted
    pub tells : told ≡ submitted.published
    pub compacts : MatchBool (passes_multiple (batches l.published) (batches submitted.published))
        (CompactsOrNot base (floor_due base submitted) submitted m) (m ≡ submitted)
