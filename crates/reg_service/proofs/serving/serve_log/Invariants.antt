use Rattle.reg_topic.specs.Topic.{topic_from}
use Rattle.reg_shared.specs.Held.{held_of}
use Rattle.reg_service.proofs.serving.serve_log.Given as goal

abbrev pub ghosts-serve_list : goal.ghosts-serve_list
ghosts-serve_list g a = record { book = a.list.reached.book; first = held_of (topic_from a.kept.log.records.items a.kept.log.next a.kept.log.floor) }
