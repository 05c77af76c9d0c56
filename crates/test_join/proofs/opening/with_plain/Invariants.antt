use Rattle.reg_topic.specs.Topic.{topic_from}
use Rattle.reg_shared.specs.Held.{held_of}
use Rattle.test_join.proofs.opening.with_plain.Given as goal

abbrev pub ghosts-beside_plain : goal.ghosts-beside_plain
ghosts-beside_plain g a =
    record { book = a.list.reached.book; first = held_of (topic_from a.kept.log.records.items a.kept.log.next a.kept.log.floor) }
