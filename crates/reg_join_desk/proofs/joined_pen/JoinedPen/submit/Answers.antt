use Rattle.reg_shared.specs.Held.{base_of}
use Rattle.reg_join_desk.proofs.Invariant.{stands_on}
use Rattle.reg_join_desk.proofs.Ordered.{ends_given}
use Rattle.reg_join_desk.proofs.joined_pen.JoinedPen.submit.Goals as goal

pub invariant_of-self : goal.invariant_of-self
invariant_of-self g c =
    stands_on g.C.Chain.told (base_of g.N.FeedName.first) c.self.inside.pen.value c.deref_mut.result.now c.submit_joined.new.pen
    (cc c.deref_mut.ensures.value) c.submit_joined.ensures.joined c.submit_joined.ensures.stops c.self.invariant

pub returns-clause-stops : goal.returns-clause-stops
returns-clause-stops g c =
    (stands_on g.C.Chain.told (base_of g.N.FeedName.first) c.self.inside.pen.value c.deref_mut.result.now c.submit_joined.new.pen
    (cc c.deref_mut.ensures.value) c.submit_joined.ensures.joined c.submit_joined.ensures.stops c.self.invariant).1

pub returns-clause-ends : goal.returns-clause-ends
returns-clause-ends g c =
    ends_given g.C.Chain.told g.C.Chain.answers (base_of g.N.FeedName.first) c.deref_mut.result.now c.self.inside.pen.value
    c.args.self.now c.submit_joined.new.pen c.args.command.now c.submit_joined.result.outcome c.submit_joined.result.seen
    (cc c.deref_mut.ensures.value) c.self.view_is c.self.invariant.0 c.submit_joined.ensures.ends
