use Rattle.std.specs.FinSet.{empty}
use Rattle.reg_follow.proofs.serving.serve_lines.Given as goal

abbrev pub ghosts-serve_feed : goal.ghosts-serve_feed
ghosts-serve_feed g a = record { book = a.list.reached.book; first = empty }
