use Rattle.reg_shared.specs.Held.{base_of}
use Rattle.reg_join_desk.proofs.Invariant.{stands_still}
use Rattle.reg_join_desk.proofs.joined_pen.JoinedPen.covers.Goals as goal

pub invariant_of-self : goal.invariant_of-self
invariant_of-self g c =
    stands_still g.C.Chain.told (base_of g.N.FeedName.first) c.self.inside.pen.value c.deref_mut.result.now c.covers.new.self
    (cc c.deref_mut.ensures.value) c.covers.ensures.same c.self.invariant
