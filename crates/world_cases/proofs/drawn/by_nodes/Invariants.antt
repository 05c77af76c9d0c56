use Rattle.std.specs.FinSet.{empty}
use Rattle.world_cases.proofs.drawn.by_nodes.Given as goal

abbrev pub ghosts-with_nodes-L-FeedName : goal.ghosts-with_nodes-L-FeedName
ghosts-with_nodes-L-FeedName g a = record { book = a.one.reached.book; first = empty }

abbrev pub ghosts-with_nodes-M-FeedName : goal.ghosts-with_nodes-M-FeedName
ghosts-with_nodes-M-FeedName g a = record { book = a.two.reached.book; first = empty }

abbrev pub ghosts-with_nodes-O-FeedName : goal.ghosts-with_nodes-O-FeedName
ghosts-with_nodes-O-FeedName g a = record { book = a.three.reached.book; first = empty }
