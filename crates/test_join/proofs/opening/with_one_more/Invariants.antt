use Rattle.reg_topic.specs.Topic.{topic_from}
use Rattle.reg_shared.specs.Held.{held_of}
use Rattle.test_join.proofs.opening.with_one_more.Given as goal

abbrev pub ghosts-beside_others : goal.ghosts-beside_others
ghosts-beside_others g a =
    record { book = a.list.reached.book; first = held_of (topic_from a.kept.log.records.items a.kept.log.next a.kept.log.floor) }
