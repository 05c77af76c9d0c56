use Rattle.std.proofs.Common.{ap, inr, refl, ◌∙◌, arith, true, false}
use Rattle.reg_records.proofs.Ends.{ends_then}
use Rattle.reg_http.proofs.Ended.{EndsAfter-begun, EndsAfter-more, EndsAfter-over, EndsRefused-step}
use Rattle.reg_http.proofs.Runs.{began_here, HasAnswered-begun, HasAnswered-more}
use Rattle.reg_http.proofs.Runs.{IsOutput-of, IsPart-closed, IsPart-full, IsPart-over, IsPart-some, IsServeRefusal-step}
use Rattle.reg_http.proofs.serving.serve.Goals as goal

pub loop-requests-init : goal.loop-requests-init
loop-requests-init g c = (
  HasAnswered-begun g.D.Desk.asks g.D.Desk.commands _ _ _ _ (ap g.W.Write.contents c.begin_count.ensures.inner),
  refl,
  c.begin_count.ensures.faults,
  (λ some. absurd (omega (arith, some)), omega arith, omega arith),
  omega arith,
  inr refl,
  omega (arith, c.begin_count.ensures.all_interruptions),
  EndsAfter-begun g.W.Output.writes g.W.Output.flushes c.args.writer.now c.begin_count.new.self c.begin_count.ensures.inner,
)

pub loop-requests-preserved : goal.loop-requests-preserved
loop-requests-preserved g c =
    let (done, reads, writes, bounds, least, end, lasting, ends) = c.loop-requests.invariant in
    let now = c.in-Ok-Some in (
      HasAnswered-more g.D.Desk.asks g.D.Desk.commands c.args.desk.now c.loop-requests.desk c.answer_next.new.desk
          _ _ _ _ _ _ c.loop-requests.requests done now.field-0 now.outcome now.field-0-is c.if-outcome.false now.ensures.step,
      now.ensures.faults.0 ∙ reads,
      now.ensures.faults.1 ∙ writes,
      (λ _. omega arith, omega arith, omega arith),
      omega (arith, least, c.answer_next.ensures.counted),
      ends_then g.R.Read.remaining c.args.reader.now c.loop-requests.reader c.answer_next.new.reader end c.answer_next.ensures.end,
      omega (arith, lasting, now.ensures.lasting),
      EndsAfter-more g.W.Output.writes g.W.Output.flushes c.args.writer.now c.loop-requests.writer
          c.answer_next.new.writer c.loop-requests.requests now.field-0 now.outcome now.field-0-is now.ensures.flushed,
    )

pub returns-then-outcome-clause-written : goal.returns-then-outcome-clause-written
returns-then-outcome-clause-written g c =
    let now = c.in-Ok-Some in
    IsOutput-of g.D.Desk.asks g.D.Desk.commands _ _ _ _ _ (g.R.Read.remaining c.answer_next.new.reader.inner) _ false (
    IsPart-closed g.D.Desk.asks g.D.Desk.commands c.args.desk.now c.loop-requests.desk c.answer_next.new.desk _ _ _ _ _ _
    c.loop-requests.requests c.loop-requests-test.true c.loop-requests.invariant.0 now.field-0 now.outcome now.field-0-is c.if-outcome.true
    now.ensures.step)

pub returns-then-outcome-clause-left : goal.returns-then-outcome-clause-left
returns-then-outcome-clause-left g c =
    let now = c.in-Ok-Some in
    IsPart-some g.D.Desk.asks g.D.Desk.commands _ _ _ _ _ (g.R.Read.remaining c.answer_next.new.reader.inner) _ false (
    IsPart-closed g.D.Desk.asks g.D.Desk.commands c.args.desk.now c.loop-requests.desk c.answer_next.new.desk _ _ _ _ _ _
    c.loop-requests.requests c.loop-requests-test.true c.loop-requests.invariant.0 now.field-0 now.outcome now.field-0-is c.if-outcome.true
    now.ensures.step)

pub returns-in-Ok-None-clause-written : goal.returns-in-Ok-None-clause-written
returns-in-Ok-None-clause-written g c =
    let now = c.in-Ok-None in
    IsOutput-of g.D.Desk.asks g.D.Desk.commands _ _ _ _ _ (g.R.Read.remaining c.answer_next.new.reader.inner) _ false (
    IsPart-over g.D.Desk.asks g.D.Desk.commands c.args.desk.now c.loop-requests.desk c.answer_next.new.desk _ _ _ _ _ _
    c.loop-requests.requests
    (omega (arith, c.loop-requests-test.true)) c.loop-requests.invariant.0 now.field-0 now.field-0-is now.ensures.step)

pub returns-in-Ok-None-clause-left : goal.returns-in-Ok-None-clause-left
returns-in-Ok-None-clause-left g c =
    let now = c.in-Ok-None in
    IsPart-some g.D.Desk.asks g.D.Desk.commands _ _ _ _ _ (g.R.Read.remaining c.answer_next.new.reader.inner) _ false (
    IsPart-over g.D.Desk.asks g.D.Desk.commands c.args.desk.now c.loop-requests.desk c.answer_next.new.desk _ _ _ _ _ _
    c.loop-requests.requests
    (omega (arith, c.loop-requests-test.true)) c.loop-requests.invariant.0 now.field-0 now.field-0-is now.ensures.step)

pub returns-in-Err-clause-refused : goal.returns-in-Err-clause-refused
returns-in-Err-clause-refused g c =
    let (done, reads, writes, bounds, least, end, lasting, ends) = c.loop-requests.invariant in
    IsServeRefusal-step g.D.Desk.asks g.D.Desk.commands c.args.reader.now c.loop-requests.reader c.answer_next.new.reader
    c.args.writer.now c.loop-requests.writer c.answer_next.new.writer
    c.args.desk.now c.loop-requests.desk c.answer_next.new.desk _ _ _ _ _ _
    c.loop-requests.requests c.in-Err.e reads writes least lasting c.loop-requests-test.true
    (omega (arith, bounds.1, c.answer_next.ensures.reads))
    (λ text here known left begun.
    began_here g.R.Read.remaining c.args.reader.now c.loop-requests.reader c.answer_next.new.reader text here known left end begun)
    done c.in-Err.ensures.refused

pub returns-clause-written : goal.returns-clause-written
returns-clause-written g c =
    IsOutput-of g.D.Desk.asks g.D.Desk.commands _ _ _ _ _ (g.R.Read.remaining c.loop-requests.reader.inner) _ true (
    IsPart-full g.D.Desk.asks g.D.Desk.commands _ _ _ _ _ _ _ (omega (arith, c.loop-requests-test.false)) c.loop-requests.invariant.0)

pub returns-clause-left : goal.returns-clause-left
returns-clause-left g c =
    IsPart-some g.D.Desk.asks g.D.Desk.commands _ _ _ _ _ (g.R.Read.remaining c.loop-requests.reader.inner) _ true (
    IsPart-full g.D.Desk.asks g.D.Desk.commands _ _ _ _ _ _ _ (omega (arith, c.loop-requests-test.false)) c.loop-requests.invariant.0)

pub returns-then-outcome-clause-flushed : goal.returns-then-outcome-clause-flushed
returns-then-outcome-clause-flushed g c =
    let now = c.in-Ok-Some in
    EndsAfter-more g.W.Output.writes g.W.Output.flushes c.args.writer.now
    c.loop-requests.writer c.answer_next.new.writer c.loop-requests.requests
    now.field-0 now.outcome now.field-0-is now.ensures.flushed

pub returns-in-Ok-None-clause-flushed : goal.returns-in-Ok-None-clause-flushed
returns-in-Ok-None-clause-flushed g c =
    let (done, reads, writes, bounds, least, end, lasting, ends) = c.loop-requests.invariant in
    let now = c.in-Ok-None in
    EndsAfter-over g.W.Output.writes g.W.Output.flushes c.args.writer.now
    c.loop-requests.writer c.answer_next.new.writer c.loop-requests.requests
    now.field-0 now.field-0-is now.ensures.flushed ends

pub returns-in-Err-clause-cause : goal.returns-in-Err-clause-cause
returns-in-Err-clause-cause g c =
    let (done, reads, writes, bounds, least, end, lasting, ends) = c.loop-requests.invariant in
    EndsRefused-step g.W.Output.writes g.W.Output.flushes c.args.writer.now
    c.loop-requests.writer c.answer_next.new.writer c.loop-requests.requests
    c.in-Err.e ends c.in-Err.ensures.cause
