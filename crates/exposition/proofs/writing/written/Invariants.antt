use Rattle.std.proofs.Common.{◌≡◌, take}
use Rattle.std.specs.List.{AllWithin}
use Rattle.exposition.specs.Lawful.{IsFamily}
use Rattle.exposition.specs.Page.{page_text}
use Rattle.exposition.proofs.writing.written.Given as goal

-- the families up to there are written
abbrev pub invariant-loop-family : goal.invariant-loop-family
invariant-loop-family l = (l.out.items ≡ page_text (take l.family-index l.page)) × AllWithin IsFamily l.page 0 l.family-index
