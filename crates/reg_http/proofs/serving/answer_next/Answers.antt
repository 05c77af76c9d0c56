use Rattle.std.proofs.Common.{ap, refl, ◌∙◌}
use Rattle.std.proofs.KnownBytes.{Keeps-refl}
use Rattle.reg_http.proofs.Attended.{gets-lent}
use Rattle.reg_http.proofs.Runs.{from_front, lost_request, lost_response}
use Rattle.reg_http.proofs.serving.answer_next.Goals as goal

pub returns-in-Ok-answer_got-clause-step : goal.returns-in-Ok-answer_got-clause-step
returns-in-Ok-answer_got-clause-step g c =
    from_front _ _ (g.R.Read.remaining c.args.reader.now.inner) (g.R.Read.remaining c.begin_count.new.self.inner)
    (ap g.R.Read.remaining c.begin_count.ensures.inner)
    (λ text gets.
    c.in-Ok-answer_got.ensures.step text (g.R.Read.remaining c.read_message.new.reader.inner)
    (gets-lent text (g.R.Read.remaining c.read_message.new.reader.inner) c.in-Ok.got gets)) c.in-Ok.ensures.got

pub returns-in-Err-answer_got-clause-refused : goal.returns-in-Err-answer_got-clause-refused
returns-in-Err-answer_got-clause-refused g c =
    let (lost, since) = c.in-Err-answer_got.ensures.lost in (
      lost,
      since,
      c.in-Ok.ensures.faults ∙ c.begin_count.ensures.faults,
      lost_response g.D.Desk.asks g.D.Desk.commands _ c.args.writer.now c.answer_got.new.writer c.args.desk.now c.answer_got.new.desk
          (g.R.Read.remaining c.args.reader.now.inner) (g.R.Read.remaining c.begin_count.new.self.inner)
          (g.W.Write.contents c.args.writer.now.inner) (g.W.Write.contents c.answer_got.new.writer.inner)
          (ap g.R.Read.remaining c.begin_count.ensures.inner)
          (λ text gets.
          c.in-Err-answer_got.ensures.refused text (g.R.Read.remaining c.read_message.new.reader.inner)
          (gets-lent text (g.R.Read.remaining c.read_message.new.reader.inner) c.in-Ok.got gets))
          c.in-Ok.ensures.got,
    )

pub returns-in-Err-clause-refused : goal.returns-in-Err-clause-refused
returns-in-Err-clause-refused g c =
    let (few, most, least, more, begun) = c.read_message.ensures.reads in (
      lost_request c.args.reader.now c.begin_count.new.self c.read_message.new.reader c.begin_count.ensures.faults
          c.begin_count.ensures.all_reads c.begin_count.ensures.reads c.read_message.ensures.reads c.in-Err.ensures.lost,
      refl,
      from_front _ _ (g.R.Read.remaining c.args.reader.now.inner) (g.R.Read.remaining c.begin_count.new.self.inner)
          (ap g.R.Read.remaining c.begin_count.ensures.inner) (λ text short. short) c.in-Err.ensures.short,
      refl,
      Keeps-refl (g.W.Write.contents c.args.writer.now.inner),
      begun ∙ c.begin_count.ensures.begun,
    )
