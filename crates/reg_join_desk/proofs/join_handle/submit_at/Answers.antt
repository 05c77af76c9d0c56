use Rattle.reg_shared.specs.Held.{base_of}
use Rattle.reg_desk.specs.Desk.{front_of}
use Rattle.reg_join_desk.proofs.Ordered.{is_ordered}
use Rattle.reg_join_desk.proofs.join_handle.submit_at.Goals as goal

pub returns : goal.returns
returns g c =
    is_ordered g.C.Chain.told g.C.Chain.answers (base_of g.N.FeedName.first) c.args.pen.now c.cover.new.pen c.submit.new.self
    (front_of c.args.since.now) c.args.command.now c.submit.result.outcome c.submit.result.seen c.cover.ensures.begun c.cover.ensures.same
    c.submit.ensures.ends c.submit.ensures.was c.submit.ensures.was_joined c.submit.ensures.joined c.submit.ensures.grows
    c.submit.ensures.stops
