-- Private: what the desk of a fold answers and replies, and where it stands.
use Rattle.std.specs.Prelude.{◌≡◌, ◌⊎◌, ◌+◌, List, [], ◌∷◌, length, IfOk, Result}
use Rattle.std.specs.FinSet.{from_list, union}
use Rattle.std.specs.declared.alloc.AllocError.{AllocError}
use Rattle.reg_leader.specs.Step.{IsStep}
use Rattle.reg_leader.specs.declared.command.Command.{Command}
use Rattle.reg_leader.specs.declared.reply.Reply.{Reply}
use Rattle.reg_leader.specs.declared.reply.Reply.TheVariants as replies
use Rattle.reg_lookup.specs.Answers.{IsAnswer}
use Rattle.reg_lookup.specs.declared.answered.Answer.{Answer}
use Rattle.reg_lookup.specs.declared.query.Query.{Query}
use Rattle.reg_records.specs.declared.record.Record.{Record}
use Rattle.reg_refusals.specs.Refusal.{no_memory}
use Rattle.reg_set.specs.LastRecords.{last_records}
use Rattle.reg_topic.specs.Topic.{IsLawful, after_items, registry_of}
use Rattle.reg_topic.specs.declared.published.Item.{Item}
use Rattle.reg_topic.specs.declared.topic.Topic.{Topic}
use Rattle.reg_program.specs.declared.desk.FoldDesk.{FoldDesk}

-- a query is answered from the registry, or memory was refused, and the desk stays as it was
abbrev pub desk_asks : FoldDesk → Query → Result Answer AllocError → FoldDesk → Type 0
desk_asks old query answered new = (new ≡ old) × IfOk answered (IsAnswer old.registry query)

-- the desk with the records of a batch, which stand at the next offsets; a batch of none leaves it as it was
abbrev pub with_batch : FoldDesk → List Record → FoldDesk
with_batch desk [] = desk
with_batch desk (r ∷ rs) = record desk {
  registry = last_records (union desk.registry (from_list (r ∷ rs)));
  next = desk.next + length (r ∷ rs);
}

-- a command is a step, whose batch is written; or memory was refused, and the desk stays as it was
abbrev pub desk_commands : FoldDesk → Command → Reply → FoldDesk → Type 0
desk_commands old command reply new =
    ((batch : List Record) × IsStep old.registry old.next command reply batch × (new ≡ with_batch old batch))
    ⊎ ((reply ≡ replies.Refused no_memory) × (new ≡ old))

-- the desk stands where those items lead, which are lawful over that base
pub record IsDeskAt (base : Topic) (published : List Item) (desk : FoldDesk) : Type 0 where
  pub registry : desk.registry ≡ registry_of (after_items base published)
  pub next : desk.next ≡ (after_items base published).next
  pub lawful : IsLawful base published
