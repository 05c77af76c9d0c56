use Rattle.exposition.proofs.LinesRead.{lines_read, are_lines}
use Rattle.exposition.proofs.laws.lines_are_read_back.Goals as goal

pub returns : goal.returns
returns c = λ a b p q e. lines_read a b (are_lines a p) (are_lines b q) e
