use Rattle.std.proofs.Common.{rules, ◌≡◌, ◌∙◌}
use Rattle.reg_shared.specs.Held.{base_of}
use Rattle.reg_join.specs.Ending.{ComesTo, Ends, forgotten}
use Rattle.reg_join.specs.declared.join_keep.Stand.TheVariants.{Stopped}
use Rattle.reg_join.proofs.Nobodys.{at_level}
use Rattle.reg_join.proofs.Trying.{ends_behind, ends_no_memory, ends_stopped, match_weaker}
use Rattle.reg_join.proofs.commanding.try_once.Goals as goal

pub returns-in-Ok-All-clause-ends : goal.returns-in-Ok-All-clause-ends
returns-in-Ok-All-clause-ends g c = λ joined.
    let goes = c.take_all.ensures.goes_on in
    match_weaker c.submit_once.result (c.submit_once.new.pen.keep.kept ≡ c.take_all.new.pen.keep.kept)
    (c.submit_once.new.pen.keep.kept ≡ c.args.pen.now.keep.kept)
    (λ e. ComesTo g.C.Chain.told g.C.Chain.answers (base_of g.N.FeedName.first) e.outcome (forgotten c.take_all.new.pen)
    c.args.command.now e.seen c.submit_once.new.pen.keep)
    (λ e. Ends g.C.Chain.told g.C.Chain.answers (base_of g.N.FeedName.first) c.args.pen.now c.args.command.now e.outcome e.seen
    c.submit_once.new.pen)
    (λ same. same ∙ goes.own.kept)
    (λ e comes. ends_behind g.C.Chain.told g.C.Chain.answers (base_of g.N.FeedName.first) c.args.pen.now c.take_all.new.pen
    c.submit_once.new.pen c.args.command.now e.outcome e.seen goes comes)
    (c.submit_once.ensures.ends (goes.joined joined))

pub returns-in-Ok-Stopped-clause-ends : goal.returns-in-Ok-Stopped-clause-ends
returns-in-Ok-Stopped-clause-ends g c = λ joined.
    let stopped : c.take_all.new.pen.keep.stand ≡ Stopped = search rules in
    ends_stopped g.C.Chain.told g.C.Chain.answers (base_of g.N.FeedName.first) c.args.pen.now c.take_all.new.pen c.args.command.now
    c.without_front.result.outcome c.without_front.result.seen c.take_all.ensures.goes_on stopped c.without_front.ensures.outcome

pub returns-in-Err-clause-ends : goal.returns-in-Err-clause-ends
returns-in-Err-clause-ends g c = λ joined.
    ends_no_memory g.C.Chain.told g.C.Chain.answers (base_of g.N.FeedName.first) c.args.pen.now c.take_all.new.pen c.args.command.now
    c.without_front-in-Err.result.outcome c.without_front-in-Err.result.seen c.take_all.ensures.goes_on
    c.without_front-in-Err.ensures.outcome

pub returns-in-Ok-All-clause-stops : goal.returns-in-Ok-All-clause-stops
returns-in-Ok-All-clause-stops g c = λ joined stops.
    at_level g.C.Chain.told (base_of g.N.FeedName.first) c.submit_once.new.pen c.submit_once.ensures.level
