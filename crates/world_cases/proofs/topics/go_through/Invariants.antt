use Rattle.reg_topic.specs.Topic.{topic_from}
use Rattle.reg_shared.specs.Held.{held_of}
use Rattle.world_cases.proofs.topics.go_through.Given as goal

abbrev pub ghosts-in_topic : goal.ghosts-in_topic
ghosts-in_topic g a =
    record { book = a.list.reached.book; first = held_of (topic_from a.kept.log.records.items a.kept.log.next a.kept.log.floor) }
