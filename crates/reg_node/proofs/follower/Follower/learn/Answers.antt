use Rattle.std.proofs.Common.{◌++◌}
use Rattle.reg_node.proofs.follower.Follower.learn.Goals as goal

pub invariant_of-self : goal.invariant_of-self
invariant_of-self g c =
    let out = c.self.inside.out.value in (
      c.self.invariant.0,
      c.self.invariant.1,
      c.followers_catch_up.ensures.stays g.N.FeedName.first c.self.inside.topic c.learn.new.self
          (out.0 ++ (out.1 ++ c.self.inside.rest.items)) c.self.inside.upto c.learn.ensures.this c.self.invariant.2,
      c.self.invariant.3,
    )
