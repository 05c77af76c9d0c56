use Rattle.std.specs.FinSet.{empty}
use Rattle.reg_node_service.proofs.nodes.add_first.Given as goal

abbrev pub ghosts-add_second : goal.ghosts-add_second
ghosts-add_second g a = record { book = a.list.reached.book; first = empty }
