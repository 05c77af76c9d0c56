use Rattle.std.proofs.lemmas.Result.{err_from_is_err_and}
use Rattle.std.specs.Prelude.{decimal}
use Rattle.reg_responses.specs.Pieces.{listed_more}
use Rattle.reg_responses.proofs.Written.{HasFront-more, Writes-then}
use Rattle.reg_responses.proofs.pieces.write_first.Goals as goal

pub returns-in_err-write_number-clause-written : goal.returns-in_err-write_number-clause-written
returns-in_err-write_number-clause-written g c =
    let lost = rw c.from.ensures at c.in_err-write_number.ensures.written in
    let p = err_from_is_err_and c.from_residual.result c.from_residual.ensures.1 in
    rw p.1 (
    HasFront-more g.W.Write.contents c.args.writer.now c.write_number.new.writer
    (decimal c.args.first) (listed_more c.args.rest.now) lost)

pub returns-clause-written : goal.returns-clause-written
returns-clause-written g c =
    let written = rw c.from.ensures at c.in_ok-write_number.ensures.written in
    Writes-then g.W.Write.contents c.args.writer.now c.write_number.new.writer c.write_more.new.writer
    (decimal c.args.first) (listed_more c.args.rest.now) _ written c.write_more.ensures.written
