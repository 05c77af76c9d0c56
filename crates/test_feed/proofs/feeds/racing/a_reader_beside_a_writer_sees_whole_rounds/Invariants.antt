use Rattle.test_feed.proofs.feeds.racing.a_reader_beside_a_writer_sees_whole_rounds.Given as goal

abbrev pub ghosts-run : goal.ghosts-run
ghosts-run g a = record { book = a.list.reached.book; first = a.first }
