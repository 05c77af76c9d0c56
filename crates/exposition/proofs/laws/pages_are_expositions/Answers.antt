use Rattle.exposition.proofs.PagesLawful.{page_is_exposition}
use Rattle.exposition.proofs.laws.pages_are_expositions.Goals as goal

pub returns : goal.returns
returns c = page_is_exposition
