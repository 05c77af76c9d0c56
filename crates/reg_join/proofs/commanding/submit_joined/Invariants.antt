use Rattle.std.proofs.Common.{◌≡◌}
use mathlib.Core.List.{IsPrefix}
use Rattle.reg_shared.specs.Held.{base_of}
use Rattle.reg_join.specs.Joined.{IsJoined}
use Rattle.reg_join.specs.Taking.{StopsAtNobodys}
use Rattle.reg_join.proofs.commanding.submit_joined.Given as goal

abbrev pub invariant-loop-again : goal.invariant-loop-again
invariant-loop-again g l = record {
  joined : IsJoined g.C.Chain.told l.fn.pen → IsJoined g.C.Chain.told l.pen;
  grows : IsPrefix l.fn.pen.published l.pen.published;
  same : IsJoined g.C.Chain.told l.fn.pen → l.pen.keep.kept ≡ l.fn.pen.keep.kept;
  stops : IsJoined g.C.Chain.told l.fn.pen → StopsAtNobodys g.C.Chain.told (base_of g.N.FeedName.first) l.fn.pen
      → StopsAtNobodys g.C.Chain.told (base_of g.N.FeedName.first) l.pen;
}
