use Rattle.test_feed.proofs.feeds.named.totals_of.Given as goal

abbrev pub ghosts-run_first : goal.ghosts-run_first
ghosts-run_first g a = record { book = a.list.reached.book; first = a.first }
