use Rattle.reg_shared.specs.Held.{base_of}
use Rattle.reg_join.proofs.Nobodys.{itself_stops, learnt_stops}
use Rattle.reg_join.proofs.taking.learn_next.Goals as goal

pub returns-then-not-settle-clause-stops : goal.returns-then-not-settle-clause-stops
returns-then-not-settle-clause-stops g c =
    itself_stops g.C.Chain.told (base_of g.N.FeedName.first) c.args.pen.now c.settle.new.self c.if-not-settle.ensures.0

pub returns-then-learning-clause-stops : goal.returns-then-learning-clause-stops
returns-then-learning-clause-stops g c =
    learnt_stops g.C.Chain.told (base_of g.N.FeedName.first) c.args.pen.now c.settle.new.self c.lend_keep.new.self c.if-not-settle.ensures.1
    c.lend_keep.ensures.same c.lend_keep.ensures.done.2

pub returns-clause-stops : goal.returns-clause-stops
returns-clause-stops g c =
    learnt_stops g.C.Chain.told (base_of g.N.FeedName.first) c.args.pen.now c.settle.new.self c.lend_keep.new.self c.if-not-settle.ensures.1
    c.lend_keep.ensures.same c.lend_keep.ensures.done.2
