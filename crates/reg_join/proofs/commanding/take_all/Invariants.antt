use Rattle.reg_shared.specs.Held.{base_of}
use Rattle.reg_join.specs.Joined.{IsJoined}
use Rattle.reg_join.specs.Taking.{GoesOn, StopsAtNobodys}
use Rattle.reg_join.proofs.commanding.take_all.Given as goal

abbrev pub invariant-loop-batch : goal.invariant-loop-batch
invariant-loop-batch g l = record {
  goes_on : GoesOn g.C.Chain.told l.fn.pen l.pen;
  stops : IsJoined g.C.Chain.told l.fn.pen → StopsAtNobodys g.C.Chain.told (base_of g.N.FeedName.first) l.fn.pen
      → StopsAtNobodys g.C.Chain.told (base_of g.N.FeedName.first) l.pen;
}
