use Rattle.std.specs.FinSet.{empty}
use Rattle.world_cases.proofs.desks.at_desk.Given as goal

abbrev pub ghosts-with_nodes-M-FeedName : goal.ghosts-with_nodes-M-FeedName
ghosts-with_nodes-M-FeedName g a = record { book = a.one.reached.book; first = empty }

abbrev pub ghosts-with_nodes-L-FeedName : goal.ghosts-with_nodes-L-FeedName
ghosts-with_nodes-L-FeedName g a = record { book = a.other.reached.book; first = empty }
