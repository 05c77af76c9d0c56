-- What a fold publishes over its log, and what is promised of that.
use Rattle.std.specs.Prelude.{◌≡◌, ◌⊎◌, List, [], ◌∷◌, ◌++◌, false, IfOk, Result}
use Rattle.std.specs.declared.alloc.AllocError.{AllocError}
use Rattle.reg_fold.specs.Closed.{is_closed}
use Rattle.reg_leader.specs.Step.{IsStep}
use Rattle.reg_leader.specs.declared.command.Command.{Command}
use Rattle.reg_leader.specs.declared.reply.Reply.{Reply}
use Rattle.reg_leader.specs.declared.reply.Reply.TheVariants as replies
use Rattle.reg_lookup.specs.Answers.{IsAnswer}
use Rattle.reg_lookup.specs.declared.answered.Answer.{Answer}
use Rattle.reg_lookup.specs.declared.query.Query.{Query}
use Rattle.reg_records.specs.Log.{LogText, next_of, records_in}
use Rattle.reg_records.specs.declared.record.Record.{Record}
use Rattle.reg_refusals.specs.Refusal.{no_memory}
use Rattle.reg_topic.specs.Promises.{IdsAreForGood, MetLevels}
use Rattle.reg_topic.specs.Topic.{IsLawful, after_items, plain_topic, registry_of}
use Rattle.reg_topic.specs.declared.published.Item.{Item}
use Rattle.reg_topic.specs.declared.published.Item.TheVariants as items
use Rattle.reg_topic.specs.declared.topic.Topic.{Topic}

-- the topic over a log: its records, the next offset, and its floor
abbrev pub topic_of : LogText → Topic
topic_of log = plain_topic (records_in log.reads) (next_of log.floor log.reads) log.floor

-- what a command publishes: its batch, unless that has no record
abbrev pub commits : Command → List Record → List Item
commits command [] = []
commits command (r ∷ rs) = items.Commit (record { command = command; batch = r ∷ rs }) ∷ []

module _ (base : Topic) where
  -- a query is answered from the registry over all that was published, or memory was refused; nothing is published
  abbrev pub asks : List Item → Query → Result Answer AllocError → List Item → Type 0
  asks old query answered new = (new ≡ old) × IfOk answered (IsAnswer (registry_of (after_items base old)) query)

  -- a command is a step from exactly all that was published, and publishes its batch; or memory was refused, and nothing is published
  abbrev pub commands : List Item → Command → Reply → List Item → Type 0
  commands old command reply new =
      ((batch : List Record)
      × IsStep (registry_of (after_items base old)) (after_items base old).next command reply batch
      × (new ≡ old ++ commits command batch))
      ⊎ ((reply ≡ replies.Refused no_memory) × (new ≡ old))

-- What was published over a topic: each batch is what its command writes from exactly all records before. Where the topic takes
-- commands at first, two entries of one id at any two moments since have one schema. Each version that was registered without an
-- id is the schema that was asked for, and met the level in force just before, against the versions live just before.
pub record KeepsPromises (base : Topic) (published : List Item) : Type 0 where
  pub lawful : IsLawful base published
  pub ids : is_closed (registry_of base) ≡ false → IdsAreForGood base published
  pub levels : MetLevels base published
