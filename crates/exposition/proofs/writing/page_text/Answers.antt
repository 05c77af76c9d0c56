use Rattle.std.proofs.Common.{subst, sym}
use Rattle.exposition.specs.Exposition.{IsExposition}
use Rattle.exposition.proofs.writing.page_text.Goals as goal

pub returns-clause-format : goal.returns-clause-format
returns-clause-format c =
    subst IsExposition (sym c.in_ok-text.ensures.text) (c.pages_are_expositions.ensures c.args.page.now c.in_ok-text.ensures.lawful)
