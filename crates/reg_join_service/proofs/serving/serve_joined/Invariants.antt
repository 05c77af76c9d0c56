use Rattle.reg_topic.specs.Topic.{topic_from}
use Rattle.reg_shared.specs.Held.{held_of}
use Rattle.reg_join_service.proofs.serving.serve_joined.Given as goal

abbrev pub ghosts-serve_base : goal.ghosts-serve_base
ghosts-serve_base g a =
    record { book = a.list.reached.book; first = held_of (topic_from a.base.log.records.items a.base.log.next a.base.log.floor) }
