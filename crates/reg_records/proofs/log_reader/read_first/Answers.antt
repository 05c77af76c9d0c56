use Rattle.std.proofs.lemmas.Result.{err_from_is_err_and}
use Rattle.reg_records.proofs.Logs.{is_empty_line-some, line_feeds-none, log_of-begun, IsLogRefusal-line, IsLogRefusal-take}
use Rattle.reg_records.proofs.log_reader.read_first.Goals as goal

pub returns-in_err-line-clause-refused : goal.returns-in_err-line-clause-refused
returns-in_err-line-clause-refused g c =
    let p = err_from_is_err_and c.from_residual.result c.from_residual.ensures.1 in
    rw (p.1, p.2)
    (IsLogRefusal-take c.args.reader.now c.take_numbered.new.reader _ _ _ c.in_err-line.ensures.refused c.in_err-line.ensures.few)

pub returns-in_err-begin-clause-refused : goal.returns-in_err-begin-clause-refused
returns-in_err-begin-clause-refused g c =
    let (line, none, some, read, held) = rw c.in-Some.is at c.in_ok-line.ensures.taken in
    let p = err_from_is_err_and c.from_residual-in_err-begin.result c.from_residual-in_err-begin.ensures.1 in
    rw (p.1, p.2)
    (IsLogRefusal-line c.args.reader.now c.take_numbered.new.reader _ _ line _ c.in_ok-line.ensures.faults none read.0 (
    is_empty_line-some line some)
    (c.in_err-begin.ensures.refused line held) c.in_ok-line.ensures.few)

pub returns-clause-step : goal.returns-clause-step
returns-clause-step g c =
    let (line, none, some, read, held) = rw c.in-Some.is at c.in_ok-line.ensures.taken in
    let (floor, reads, is, few, says) = c.in_ok-begin.ensures.said line held in (
      floor,
      reads,
      is,
      few,
      (line, read, line_feeds-none line none),
      log_of-begun _ _ line floor reads none read.0 (is_empty_line-some line some) says,
    )
