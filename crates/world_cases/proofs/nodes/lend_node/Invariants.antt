use Rattle.std.specs.FinSet.{empty}
use Rattle.world_cases.proofs.nodes.lend_node.Given as goal

abbrev pub ghosts-lend_named : goal.ghosts-lend_named
ghosts-lend_named g a = record { book = a.list.reached.book; first = empty }
