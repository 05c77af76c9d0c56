use Rattle.test_feed.proofs.feeds.together.holds.Given as goal

abbrev pub ghosts-run : goal.ghosts-run
ghosts-run g a = record { book = a.list.reached.book; first = a.first }
