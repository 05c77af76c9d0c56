use Rattle.std.specs.FinSet.{empty}
use Rattle.reg_node_service.proofs.nodes.add_second.Given as goal

abbrev pub ghosts-add_third : goal.ghosts-add_third
ghosts-add_third g a = record { book = a.list.reached.book; first = empty }
