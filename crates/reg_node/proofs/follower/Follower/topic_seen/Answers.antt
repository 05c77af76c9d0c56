use Rattle.std.proofs.Common.{List, ◌++◌, subst}
use Rattle.reg_topic.specs.declared.published.Item.{Item}
use Rattle.reg_node.specs.Takes.{AreDrawnFrom}
use Rattle.reg_node.specs.declared.take.Draw.{Draw}
use Rattle.reg_node.proofs.Drawn.{drawn_from_first}
use Rattle.reg_node.proofs.follower.Follower.topic_seen.Goals as goal

pub returns-clause-drawn : goal.returns-clause-drawn
returns-clause-drawn g c =
    subst (λ (v : List Item × (List Draw × List Draw)). AreDrawnFrom g.N.FeedName.first (v.1.0 ++ v.1.1) v.0)
    c.self.view_is c.self.invariant.2.drawn

pub returns-clause-published : goal.returns-clause-published
returns-clause-published g c =
    let s = c.self.inside in
    subst (λ (v : List Item × (List Draw × List Draw)). AreDrawnFrom g.N.FeedName.first v.1.0 v.0) c.self.view_is
    (drawn_from_first g.N.FeedName.first s.topic s.out.value.0 (s.out.value.1 ++ s.rest.items) c.self.invariant.2.drawn)
