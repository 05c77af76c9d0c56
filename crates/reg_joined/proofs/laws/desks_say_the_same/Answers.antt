use Rattle.std.proofs.Common.{List}
use mathlib.Core.List.{IsPrefix}
use Rattle.reg_records.specs.declared.record.Record.{Record}
use Rattle.reg_topic.specs.declared.published.Item.{Item}
use Rattle.reg_topic.specs.declared.topic.Topic.{Topic}
use Rattle.reg_processes.specs.Process.{TakesPart}
use Rattle.reg_processes.specs.Laws.{FrontsTakePart, TookAsMuch}
use Rattle.reg_joined.specs.Pens.{process_of}
use Rattle.reg_joined.proofs.laws.desks_say_the_same.Goals as goal

-- what a desk has seen of what its pen published takes part, too
seen_takes_part : FrontsTakePart → (log early : List (List Record)) (base : Topic) (published seen : List Item)
    → TakesPart log (process_of early base published) → IsPrefix seen published → TakesPart log (process_of early base seen)
seen_takes_part fronts log early base published seen takes begins = fronts log (process_of early base published) takes seen begins

pub returns-clause-bytes : goal.returns-clause-bytes
returns-clause-bytes g c log early others base other_base l m seen other_seen joins joined begins other_begins as_many =
    c.same_logs_give_same_bytes.ensures (process_of early base seen) (process_of others other_base other_seen) (record {
      chain = log;
      one = seen_takes_part c.fronts_take_part.ensures log early base l.published seen
          (c.pens_take_part.ensures.readers log early base l joins) begins;
      other = seen_takes_part c.fronts_take_part.ensures log others other_base m.published other_seen
          (c.pens_take_part-2.ensures.readers log others other_base m joined) other_begins;
      as_many = as_many;
    })

pub returns-clause-steps : goal.returns-clause-steps
returns-clause-steps g c log early others base other_base l m seen other_seen joins joined begins other_begins as_many =
    c.same_logs_give_alike.ensures.steps (process_of early base seen) (process_of others other_base other_seen) (record {
      chain = log;
      one = seen_takes_part c.fronts_take_part.ensures log early base l.published seen
          (c.pens_take_part.ensures.readers log early base l joins) begins;
      other = seen_takes_part c.fronts_take_part.ensures log others other_base m.published other_seen
          (c.pens_take_part-2.ensures.readers log others other_base m joined) other_begins;
      as_many = as_many;
    })
