use Rattle.std.proofs.Common.{[], append-nil, refl, ◌∙◌}
use Rattle.reg_shared.specs.Held.{base_of}
use Rattle.reg_join.proofs.Ending.{ends_later}
use Rattle.reg_join.proofs.TakingIn.{prefix_trans}
use Rattle.reg_join.proofs.Trying.{ends_overtaken}
use Rattle.reg_join.proofs.commanding.submit_joined.Goals as goal

pub loop-again-init : goal.loop-again-init
loop-again-init g c = record {
  joined = λ joined. joined;
  grows = ([], append-nil c.args.pen.now.published);
  same = λ joined. refl;
  stops = λ joined stops. stops;
}

pub loop-again-preserved : goal.loop-again-preserved
loop-again-preserved g c = record {
  joined = λ joined. c.try_once.ensures.joined (c.loop-again.invariant.joined joined);
  grows = prefix_trans c.args.pen.now.published c.loop-again.pen.published c.try_once.new.pen.published c.loop-again.invariant.grows
      c.try_once.ensures.grows;
  same = λ joined. c.in-None.ensures.ends (c.loop-again.invariant.joined joined) ∙ c.loop-again.invariant.same joined;
  stops = λ joined stops. c.try_once.ensures.stops (c.loop-again.invariant.joined joined) (c.loop-again.invariant.stops joined stops);
}

pub returns-in-Some-clause-joined : goal.returns-in-Some-clause-joined
returns-in-Some-clause-joined g c = λ joined. c.try_once.ensures.joined (c.loop-again.invariant.joined joined)

pub returns-in-Some-clause-grows : goal.returns-in-Some-clause-grows
returns-in-Some-clause-grows g c =
    prefix_trans c.args.pen.now.published c.loop-again.pen.published c.try_once.new.pen.published c.loop-again.invariant.grows
    c.try_once.ensures.grows

pub returns-in-Some-clause-ends : goal.returns-in-Some-clause-ends
returns-in-Some-clause-ends g c = λ joined.
    ends_later g.C.Chain.told g.C.Chain.answers (base_of g.N.FeedName.first) c.args.pen.now c.loop-again.pen c.try_once.new.pen
    c.args.command.now c.in-Some.ended.outcome c.in-Some.ended.seen c.loop-again.invariant.grows (c.loop-again.invariant.same joined)
    (c.in-Some.ensures.ends (c.loop-again.invariant.joined joined))

pub returns-in-Some-clause-stops : goal.returns-in-Some-clause-stops
returns-in-Some-clause-stops g c = λ joined stops.
    c.try_once.ensures.stops (c.loop-again.invariant.joined joined) (c.loop-again.invariant.stops joined stops)

pub returns-then-is_over-clause-joined : goal.returns-then-is_over-clause-joined
returns-then-is_over-clause-joined g c = λ joined. c.try_once.ensures.joined (c.loop-again.invariant.joined joined)

pub returns-then-is_over-clause-grows : goal.returns-then-is_over-clause-grows
returns-then-is_over-clause-grows g c =
    prefix_trans c.args.pen.now.published c.loop-again.pen.published c.try_once.new.pen.published c.loop-again.invariant.grows
    c.try_once.ensures.grows

pub returns-then-is_over-clause-ends : goal.returns-then-is_over-clause-ends
returns-then-is_over-clause-ends g c = λ joined.
    ends_overtaken g.C.Chain.told g.C.Chain.answers (base_of g.N.FeedName.first) c.args.pen.now c.try_once.new.pen c.args.command.now
    c.without_front.result.outcome c.without_front.result.seen
    (prefix_trans c.args.pen.now.published c.loop-again.pen.published c.try_once.new.pen.published c.loop-again.invariant.grows
    c.try_once.ensures.grows)
    (c.in-None.ensures.ends (c.loop-again.invariant.joined joined) ∙ c.loop-again.invariant.same joined)
    c.without_front.ensures.outcome

pub returns-then-is_over-clause-stops : goal.returns-then-is_over-clause-stops
returns-then-is_over-clause-stops g c = λ joined stops.
    c.try_once.ensures.stops (c.loop-again.invariant.joined joined) (c.loop-again.invariant.stops joined stops)

pub returns-clause-joined : goal.returns-clause-joined
returns-clause-joined g c = c.loop-again.invariant.joined

pub returns-clause-grows : goal.returns-clause-grows
returns-clause-grows g c = c.loop-again.invariant.grows

pub returns-clause-ends : goal.returns-clause-ends
returns-clause-ends g c = λ joined.
    ends_overtaken g.C.Chain.told g.C.Chain.answers (base_of g.N.FeedName.first) c.args.pen.now c.loop-again.pen c.args.command.now
    c.without_front-2.result.outcome c.without_front-2.result.seen c.loop-again.invariant.grows (c.loop-again.invariant.same joined)
    c.without_front-2.ensures.outcome

pub returns-clause-stops : goal.returns-clause-stops
returns-clause-stops g c = c.loop-again.invariant.stops
