-- What a text of the format says, and that it says nothing else.
use Rattle.std.specs.Prelude.{◌≡◌, List, All}
use Rattle.exposition.specs.declared.page.Family.{Family}
use Rattle.exposition.specs.Exposition.{IsExposition}
use Rattle.exposition.specs.Lawful.{IsLine, IsPage}
use Rattle.exposition.specs.Lines.{Line, lines_text}
use Rattle.exposition.specs.Page.{page_text}

-- lines with one text are the same lines
abbrev pub LinesAreReadBack : Type 0
LinesAreReadBack = (a b : List Line) → All IsLine a → All IsLine b → lines_text a ≡ lines_text b → a ≡ b

-- the text of each page is of the format
abbrev pub PagesAreExpositions : Type 0
PagesAreExpositions = (page : List Family) → IsPage page → IsExposition (page_text page)

-- pages with one text are the same page
abbrev pub PagesAreReadBack : Type 0
PagesAreReadBack = (a b : List Family) → IsPage a → IsPage b → page_text a ≡ page_text b → a ≡ b
