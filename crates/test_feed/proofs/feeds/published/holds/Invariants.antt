use Rattle.test_feed.proofs.feeds.published.holds.Given as goal

abbrev pub ghosts-run_feed : goal.ghosts-run_feed
ghosts-run_feed g a = record { book = a.list.reached.book; first = a.first }
