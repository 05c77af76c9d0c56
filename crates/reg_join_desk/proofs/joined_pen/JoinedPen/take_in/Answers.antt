use Rattle.reg_shared.specs.Held.{base_of}
use Rattle.reg_join_desk.proofs.Invariant.{Stands, stands_on}
use Rattle.reg_join_desk.proofs.joined_pen.JoinedPen.take_in.Goals as goal

pub invariant_of-self : goal.invariant_of-self
invariant_of-self g c =
    stands_on g.C.Chain.told (base_of g.N.FeedName.first) c.self.inside.pen.value c.deref_mut.result.now c.take_in.new.pen
    (cc c.deref_mut.ensures.value) c.take_in.ensures.goes_on.joined c.take_in.ensures.stops c.self.invariant

pub returns-clause-stops : goal.returns-clause-stops
returns-clause-stops g c =
    (stands_on g.C.Chain.told (base_of g.N.FeedName.first) c.self.inside.pen.value c.deref_mut.result.now c.take_in.new.pen
    (cc c.deref_mut.ensures.value) c.take_in.ensures.goes_on.joined c.take_in.ensures.stops c.self.invariant).1
