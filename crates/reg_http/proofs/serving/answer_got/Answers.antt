use Rattle.std.proofs.KnownBytes.{Keeps-refl}
use Rattle.reg_http.specs.Serve.{left_if}
use Rattle.reg_http.specs.ServeSteps.{done_closes, done_text}
use Rattle.reg_http.specs.declared.outcome.RequestOutcome.{RequestOutcome}
use Rattle.reg_http.proofs.Attended.{steps-written}
use Rattle.reg_http.proofs.serving.answer_got.Goals as goal

pub returns-in-Over-clause-step : goal.returns-in-Over-clause-step
returns-in-Over-clause-step g c = λ text left gets.
    let (none, same) = c.in-Over.ensures text left gets in (none, same, Keeps-refl (g.W.Write.contents c.args.writer.now.inner))

pub returns-in-Ok-clause-step : goal.returns-in-Ok-clause-step
returns-in-Ok-clause-step g c = λ text left gets.
    let outcome : RequestOutcome =
    record { endpoint = c.in-Done.endpoint; status = c.status_of.result; closes = c.closes_after.result } in
    steps-written g.D.Desk.asks g.D.Desk.commands c.args.desk.now c.attend.new.desk text left
    (g.W.Write.contents c.args.writer.now.inner) (g.W.Write.contents c.write_done.new.writer.inner)
    c.in-Done.done c.in-Done.wants_close outcome c.closes_after.ensures c.status_of.ensures
    (c.in-Done.ensures text left gets) c.in-Ok.ensures.written.0

pub returns-clause-refused : goal.returns-clause-refused
returns-clause-refused g c = λ text left gets.
    let (rest, goes, first, there) = c.in-Done.ensures text left gets in
    let (lost, front, since) = c.in-Err.ensures.written in (
      lost,
      done_text c.in-Done.wants_close c.in-Done.done,
      left_if (done_closes c.in-Done.wants_close c.in-Done.done) rest,
      first,
      front,
    )
