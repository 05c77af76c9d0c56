use Rattle.std.specs.FinSet.{empty}
use Rattle.reg_node_service.proofs.nodes.serve_pen.Given as goal

abbrev pub ghosts-add_first : goal.ghosts-add_first
ghosts-add_first g a = record { book = a.list.reached.book; first = empty }
