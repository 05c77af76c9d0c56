use Rattle.std.proofs.Common.{◌∷◌, []}
use Rattle.std.specs.Prelude.{decimal}
use Rattle.std.proofs.lemmas.Result.{err_from_is_err_and}
use Rattle.reg_responses.proofs.Written.{HasFront-more, Writes-then}
use Rattle.reg_responses.proofs.pieces.write_after_comma.Goals as goal

pub returns-in_err-write_bytes-clause-written : goal.returns-in_err-write_bytes-clause-written
returns-in_err-write_bytes-clause-written g c =
    let p = err_from_is_err_and c.from_residual.result c.from_residual.ensures.1 in
    rw p.1 (
    HasFront-more g.W.Write.contents c.args.writer.now c.write_bytes.new.writer
    (44 ∷ []) (decimal c.args.number) c.in_err-write_bytes.ensures.written)

pub returns-clause-written : goal.returns-clause-written
returns-clause-written g c =
    let more = rw c.from.ensures at c.write_number.ensures.written in
    Writes-then g.W.Write.contents c.args.writer.now c.write_bytes.new.writer c.write_number.new.writer
    (44 ∷ []) (decimal c.args.number) _ c.in_ok-write_bytes.ensures.written more
