use Rattle.std.proofs.Common.{arith}
use Rattle.std.proofs.lemmas.List.{take_more}
use Rattle.std.proofs.lemmas.Result.{err_from_is_err_and}
use Rattle.reg_responses.specs.Pieces.{piece_text}
use Rattle.reg_responses.proofs.Written.{HasFront-then, flat_map-split}
use Rattle.reg_responses.proofs.pieces.write_pieces.Goals as goal

pub returns-in_err-write_piece-clause-written : goal.returns-in_err-write_piece-clause-written
returns-in_err-write_piece-clause-written g c =
    let all = c.args.pieces.now in
    let i = c.loop-piece.piece-index in
    let p = err_from_is_err_and c.from_residual.result c.from_residual.ensures.1 in
    rw p.1 (
    HasFront-then g.W.Write.contents c.args.writer.now c.loop-piece.writer c.write_piece.new.writer _ _ _ _
    (flat_map-split piece_text all i _ (take_more all i _ (omega arith))) c.loop-piece.invariant c.in_err-write_piece.ensures.written)
