use Rattle.reg_shared.specs.Held.{base_of}
use Rattle.reg_join.proofs.Nobodys.{stops_told}
use Rattle.reg_join.proofs.taking.take_in.Goals as goal

pub returns-in-NoCommand-clause-stops : goal.returns-in-NoCommand-clause-stops
returns-in-NoCommand-clause-stops g c = λ joined stops.
    stops_told g.C.Chain.told (base_of g.N.FeedName.first) _ c.learn_next.new.pen c.stop.new.pen c.in-NoCommand.is
    c.in_ok-next_command.ensures (c.learn_next.ensures.goes_on.joined joined) (c.learn_next.ensures.stops stops) c.stop.ensures.stopped
    c.stop.ensures.same
