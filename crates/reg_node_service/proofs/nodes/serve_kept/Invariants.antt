use Rattle.reg_topic.specs.Topic.{topic_from}
use Rattle.reg_shared.specs.Held.{held_of}
use Rattle.reg_node_service.proofs.nodes.serve_kept.Given as goal

abbrev pub ghosts-serve_topic : goal.ghosts-serve_topic
ghosts-serve_topic g a = record { book = a.list.reached.book; first = held_of (topic_from a.kept.log.records.items a.kept.log.next a.kept.log.floor) }
