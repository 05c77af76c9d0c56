use Rattle.test_feed.proofs.feeds.named.run_first.Given as goal

abbrev pub ghosts-run_second : goal.ghosts-run_second
ghosts-run_second g a = record { book = a.list.reached.book; first = a.first }
