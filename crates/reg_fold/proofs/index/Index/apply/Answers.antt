use Rattle.std.proofs.Common.{sym}
use Rattle.reg_fold.proofs.index.Index.apply.Goals as goal

pub returns-then-not-is_news : goal.returns-then-not-is_news
returns-then-not-is_news c = record { kept = c.requires.kept; added = sym (c.is_news.ensures.no_news assumption); refused = tt }
