use Rattle.std.proofs.lemmas.List.Elements.{recursion_from_All}
use Rattle.exposition.specs.Lawful.{IsFamily}
use Rattle.exposition.specs.Page.{page_lines}
use Rattle.exposition.proofs.LinesRead.{are_lines, lines_read}
use Rattle.exposition.proofs.PagesLawful.{page_has_lines}
use Rattle.exposition.proofs.PagesRead.{pages_same}
use Rattle.exposition.proofs.laws.pages_are_read_back.Goals as goal

pub returns : goal.returns
returns c = λ a b p q e.
    let lines = lines_read (page_lines a) (page_lines b) (are_lines (page_lines a) (page_has_lines a p))
    (are_lines (page_lines b) (page_has_lines b q)) e in
    pages_same a b (recursion_from_All IsFamily a p) (recursion_from_All IsFamily b q) lines
