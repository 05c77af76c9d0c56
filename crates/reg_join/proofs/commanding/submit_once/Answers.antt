use Rattle.std.proofs.Common.{Some, None, ap, ◌∙◌}
use Rattle.reg_shared.specs.Held.{base_of}
use Rattle.reg_join.specs.declared.join_keep.JoinKeep.{JoinKeep}
use Rattle.reg_join.proofs.Levels.{concluded_level, submitted_level}
use Rattle.reg_join.proofs.Trying.{forgets, once, once_joined}
use Rattle.reg_join.proofs.commanding.submit_once.Goals as goal

pub returns-in-Some-clause-joined : goal.returns-in-Some-clause-joined
returns-in-Some-clause-joined g c = λ joined.
    let s = c.submit_and_compact-reply in
    c.conclude.ensures.joined (once_joined g.C.Chain.told g.C.Chain.answers (base_of g.N.FeedName.first) _ c.args.pen.now
    c.lend_keep.new.self s.new.self c.args.command.now s.result.reply s.result.seen
    (forgets g.C.Chain.told c.args.pen.now c.lend_keep.new.self c.lend_keep.ensures.same c.lend_keep.ensures.done) s.ensures.done joined)

pub returns-in-Some-clause-ends : goal.returns-in-Some-clause-ends
returns-in-Some-clause-ends g c = λ joined.
    let s = c.submit_and_compact-reply in
    once g.C.Chain.told g.C.Chain.answers (base_of g.N.FeedName.first) _ c.args.pen.now c.lend_keep.new.self s.new.self c.conclude.new.pen
    c.args.command.now s.result.reply s.result.seen (Some c.in-Some.outcome)
    (forgets g.C.Chain.told c.args.pen.now c.lend_keep.new.self c.lend_keep.ensures.same c.lend_keep.ensures.done) s.ensures.done
    c.requires.level c.requires.clear c.in-Some.ensures.concludes joined

pub returns-in-None-clause-joined : goal.returns-in-None-clause-joined
returns-in-None-clause-joined g c = λ joined.
    let s = c.submit_and_compact-reply in
    c.conclude.ensures.joined (once_joined g.C.Chain.told g.C.Chain.answers (base_of g.N.FeedName.first) _ c.args.pen.now
    c.lend_keep.new.self s.new.self c.args.command.now s.result.reply s.result.seen
    (forgets g.C.Chain.told c.args.pen.now c.lend_keep.new.self c.lend_keep.ensures.same c.lend_keep.ensures.done) s.ensures.done joined)

pub returns-in-None-clause-ends : goal.returns-in-None-clause-ends
returns-in-None-clause-ends g c = λ joined.
    let s = c.submit_and_compact-reply in
    once g.C.Chain.told g.C.Chain.answers (base_of g.N.FeedName.first) _ c.args.pen.now c.lend_keep.new.self s.new.self c.conclude.new.pen
    c.args.command.now s.result.reply s.result.seen None
    (forgets g.C.Chain.told c.args.pen.now c.lend_keep.new.self c.lend_keep.ensures.same c.lend_keep.ensures.done) s.ensures.done
    c.requires.level c.requires.clear c.in-None.ensures.concludes joined

pub returns-in-Some-clause-level : goal.returns-in-Some-clause-level
returns-in-Some-clause-level g c =
    let s = c.submit_and_compact-reply in
    concluded_level g.C.Chain.told g.C.Chain.answers (base_of g.N.FeedName.first) s.new.self.keep c.conclude.new.pen.keep c.args.command.now
    s.result.reply (Some c.in-Some.outcome)
    (submitted_level g.C.Chain.told g.C.Chain.answers (base_of g.N.FeedName.first) _ c.lend_keep.new.self c.args.command.now s.result.reply
    (ap (λ (k : JoinKeep g.row.C.Denot). k.stand) c.lend_keep.ensures.done ∙ c.requires.level) s.new.self s.result.seen s.ensures.done)
    s.new.self.keep.last c.in-Some.ensures.concludes

pub returns-in-None-clause-level : goal.returns-in-None-clause-level
returns-in-None-clause-level g c =
    let s = c.submit_and_compact-reply in
    concluded_level g.C.Chain.told g.C.Chain.answers (base_of g.N.FeedName.first) s.new.self.keep c.conclude.new.pen.keep c.args.command.now
    s.result.reply None
    (submitted_level g.C.Chain.told g.C.Chain.answers (base_of g.N.FeedName.first) _ c.lend_keep.new.self c.args.command.now s.result.reply
    (ap (λ (k : JoinKeep g.row.C.Denot). k.stand) c.lend_keep.ensures.done ∙ c.requires.level) s.new.self s.result.seen s.ensures.done)
    s.new.self.keep.last c.in-None.ensures.concludes
