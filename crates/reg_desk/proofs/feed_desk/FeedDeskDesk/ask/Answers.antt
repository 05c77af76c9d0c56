use Rattle.std.proofs.Common.{refl}
use Rattle.reg_desk.proofs.Fronts.{asks_again}
use Rattle.reg_desk.proofs.feed_desk.FeedDeskDesk.ask.Goals as goal

pub returns-then-has_news : goal.returns-then-has_news
returns-then-has_news g c =
    asks_again (g.V.ShowsRegistry.comes_to g.N.FeedName.first) (g.V.ShowsRegistry.answers_for g.N.FeedName.first)
    (g.V.Fold.publishes g.N.FeedName.first) _ c.args.self.now _ c.lookup.new.self c.args.query.now c.lookup-then-has_news.result c.self.view_is
    c.lookup-then-has_news.ensures.answered c.lookup-then-has_news.ensures.answers_for c.lookup-then-has_news.ensures.published
    c.lookup.ensures.longer c.lookup-then-has_news.ensures.longer refl
