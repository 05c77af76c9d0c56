use Rattle.reg_desk.proofs.Fronts.{show_theirs}
use Rattle.reg_desk.proofs.laws.feed_connections_read_their_writes.Goals as goal

pub returns : goal.returns
returns g c =
    show_theirs (g.V.ShowsRegistry.comes_to g.N.FeedName.first) (g.V.ShowsRegistry.answers_for g.N.FeedName.first)
    (g.V.Fold.publishes g.N.FeedName.first) g.C.Commander.carries
