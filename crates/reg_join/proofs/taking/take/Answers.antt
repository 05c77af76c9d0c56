use Rattle.std.proofs.Common.{rules, ◌≡◌, false, sym, ap, ◌∙◌}
use Rattle.reg_shared.specs.Held.{base_of}
use Rattle.reg_join.specs.Memory.{is_no_memory}
use Rattle.reg_join.specs.declared.join_keep.JoinKeep.{JoinKeep}
use Rattle.reg_join.specs.declared.join_keep.Stand.TheVariants.{Level, Stopped}
use Rattle.reg_join.proofs.Candidates.{left_at_nobodys, stopped_at_nobodys}
use Rattle.reg_join.proofs.Nobodys.{at_due, at_level}
use Rattle.reg_join.proofs.TakingIn.{due_goes_on, due_is_taken, goes_on_then, was_left, was_stopped, was_taken}
use Rattle.reg_join.proofs.taking.take.Goals as goal

pub returns-in-Level-clause-goes_on : goal.returns-in-Level-clause-goes_on
returns-in-Level-clause-goes_on g c =
    let s = c.submit_and_compact-submitted in
    due_goes_on g.C.Chain.told g.C.Chain.answers (base_of g.N.FeedName.first) _ c.args.pen.now s.new.self c.args.command.now
    s.result.reply s.result.seen c.requires.due.0 s.ensures.done c.requires.due.1 s.ensures.grows

pub returns-in-Level-clause-taken : goal.returns-in-Level-clause-taken
returns-in-Level-clause-taken g c =
    let s = c.submit_and_compact-submitted in
    let level : s.new.self.keep.stand ≡ Level = search rules in
    was_taken c.args.pen.now s.new.self c.requires.due.0 c.requires.due.1
    (due_is_taken g.C.Chain.told g.C.Chain.answers (base_of g.N.FeedName.first) _ c.args.pen.now s.new.self c.args.command.now
    s.result.reply s.result.seen c.requires.due.0 s.ensures.done c.requires.due.1) level

pub returns-in-Stopped-clause-goes_on : goal.returns-in-Stopped-clause-goes_on
returns-in-Stopped-clause-goes_on g c =
    let s = c.submit_and_compact-submitted in
    due_goes_on g.C.Chain.told g.C.Chain.answers (base_of g.N.FeedName.first) _ c.args.pen.now s.new.self c.args.command.now
    s.result.reply s.result.seen c.requires.due.0 s.ensures.done c.requires.due.1 s.ensures.grows

pub returns-in-Stopped-clause-taken : goal.returns-in-Stopped-clause-taken
returns-in-Stopped-clause-taken g c =
    let s = c.submit_and_compact-submitted in
    let stopped : s.new.self.keep.stand ≡ Stopped = search rules in
    was_stopped c.args.pen.now s.new.self c.requires.due.0 c.requires.due.1
    (due_is_taken g.C.Chain.told g.C.Chain.answers (base_of g.N.FeedName.first) _ c.args.pen.now s.new.self c.args.command.now
    s.result.reply s.result.seen c.requires.due.0 s.ensures.done c.requires.due.1) stopped

pub returns-then-is_no_memory-clause-goes_on : goal.returns-then-is_no_memory-clause-goes_on
returns-then-is_no_memory-clause-goes_on g c =
    let s = c.submit_and_compact-submitted in
    due_goes_on g.C.Chain.told g.C.Chain.answers (base_of g.N.FeedName.first) _ c.args.pen.now s.new.self c.args.command.now
    s.result.reply s.result.seen c.requires.due.0 s.ensures.done c.requires.due.1 s.ensures.grows

pub returns-clause-goes_on : goal.returns-clause-goes_on
returns-clause-goes_on g c =
    let s = c.submit_and_compact-submitted in
    goes_on_then g.C.Chain.told c.args.pen.now s.new.self c.stop.new.pen
    (due_goes_on g.C.Chain.told g.C.Chain.answers (base_of g.N.FeedName.first) _ c.args.pen.now s.new.self c.args.command.now
    s.result.reply s.result.seen c.requires.due.0 s.ensures.done c.requires.due.1 s.ensures.grows) c.stop.ensures.goes_on

pub returns-clause-taken : goal.returns-clause-taken
returns-clause-taken g c =
    let s = c.submit_and_compact-submitted in (
      ap (λ (k : JoinKeep g.row.C.Denot). k.stand) c.stop.ensures.stopped,
      c.stop.ensures.same
          ∙ was_left c.args.pen.now s.new.self c.requires.due.0 c.requires.due.1 _
          (due_is_taken g.C.Chain.told g.C.Chain.answers (base_of g.N.FeedName.first) _ c.args.pen.now s.new.self c.args.command.now
          s.result.reply s.result.seen c.requires.due.0 s.ensures.done c.requires.due.1)
          (sym (ap (λ (k : JoinKeep g.row.C.Denot). k.stand) c.keep.ensures) ∙ (sym c.stand.ensures ∙ c.in-Due.is)),
    )

pub returns-in-Level-clause-stops : goal.returns-in-Level-clause-stops
returns-in-Level-clause-stops g c = λ joined.
    let s = c.submit_and_compact-submitted in
    let level : s.new.self.keep.stand ≡ Level = search rules in
    at_level g.C.Chain.told (base_of g.N.FeedName.first) s.new.self level

pub returns-in-Stopped-clause-stops : goal.returns-in-Stopped-clause-stops
returns-in-Stopped-clause-stops g c = λ joined.
    let s = c.submit_and_compact-submitted in
    let stopped : s.new.self.keep.stand ≡ Stopped = search rules in
    stopped_at_nobodys g.C.Chain.told g.C.Chain.answers (base_of g.N.FeedName.first) _ c.args.pen.now c.args.command.now s.result.reply
    c.requires.due.0 c.requires.due.1 s.new.self s.result.seen c.requires.clear s.ensures.done c.steps_are_single.ensures c.requires.due.2
    joined stopped

pub returns-then-is_no_memory-clause-stops : goal.returns-then-is_no_memory-clause-stops
returns-then-is_no_memory-clause-stops g c = λ joined.
    let s = c.submit_and_compact-submitted in
    at_due g.C.Chain.told (base_of g.N.FeedName.first) s.new.self _
    (sym (ap (λ (k : JoinKeep g.row.C.Denot). k.stand) c.keep.ensures) ∙ (sym c.stand.ensures ∙ c.in-Due.is))

pub returns-clause-stops : goal.returns-clause-stops
returns-clause-stops g c = λ joined.
    let s = c.submit_and_compact-submitted in
    let some : is_no_memory s.result.reply ≡ false = cc in
    left_at_nobodys g.C.Chain.told g.C.Chain.answers (base_of g.N.FeedName.first) _ c.args.pen.now c.args.command.now s.result.reply
    c.requires.due.0 c.requires.due.1 s.new.self s.result.seen c.requires.clear s.ensures.done c.steps_are_single.ensures c.requires.due.2
    joined _ (sym (ap (λ (k : JoinKeep g.row.C.Denot). k.stand) c.keep.ensures) ∙ (sym c.stand.ensures ∙ c.in-Due.is)) some
    c.stop.new.pen c.stop.ensures.stopped c.stop.ensures.same
