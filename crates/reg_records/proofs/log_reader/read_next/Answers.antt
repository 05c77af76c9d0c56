use Rattle.std.proofs.lemmas.Result.{err_from_is_err_and}
use Rattle.reg_records.proofs.Logs.{is_empty_line-some, line_feeds-none, log_from-read, IsStepRefusal-line, IsStepRefusal-take}
use Rattle.reg_records.proofs.log_reader.read_next.Goals as goal

pub returns-in_err-line-clause-refused : goal.returns-in_err-line-clause-refused
returns-in_err-line-clause-refused g c =
    let p = err_from_is_err_and c.from_residual.result c.from_residual.ensures.1 in
    rw (p.1, p.2) (IsStepRefusal-take c.args.number c.args.reader.now c.take_numbered.new.reader _ _ _ c.in_err-line.ensures.refused)

pub returns-in_err-read-clause-refused : goal.returns-in_err-read-clause-refused
returns-in_err-read-clause-refused g c =
    let (line, none, some, read, held) = rw c.in-Some.is at c.in_ok-line.ensures.taken in
    let p = err_from_is_err_and c.from_residual-in_err-read.result c.from_residual-in_err-read.ensures.1 in
    rw (p.1, p.2)
    (IsStepRefusal-line c.args.number c.args.reader.now c.take_numbered.new.reader _ _ line _ c.in_ok-line.ensures.faults none read.0
    (is_empty_line-some line some)
    (c.in_err-read.ensures.refused line held))

pub returns-clause-step : goal.returns-clause-step
returns-clause-step g c =
    let (line, none, some, read, held) = rw c.in-Some.is at c.in_ok-line.ensures.taken in
    let (within, says) = c.in_ok-read.ensures.read line held in (
      within,
      c.in_ok-read.read,
      c.in_ok-add.ensures,
      (line, read, line_feeds-none line none),
      log_from-read c.args.number _ _ line c.in_ok-read.read none read.0 (is_empty_line-some line some) says within,
    )
