use Rattle.reg_topic.specs.Topic.{topic_from}
use Rattle.reg_shared.specs.Held.{held_of}
use Rattle.test_join.proofs.desks.wrong_step.Given as goal

abbrev pub ghosts-with_pen : goal.ghosts-with_pen
ghosts-with_pen g a = record { book = a.list.reached.book; first = held_of (topic_from a.log.records.items a.log.next a.log.floor) }
