use Rattle.std.proofs.Common.{arith}
use Rattle.std.proofs.lemmas.List.{take_more}
use Rattle.std.proofs.lemmas.Result.{err_from_is_err_and}
use Rattle.json.specs.Print.{escape_byte}
use Rattle.reg_responses.proofs.Written.{HasFront-then, flat_map-split}
use Rattle.reg_responses.proofs.pieces.write_escaped.Goals as goal

pub returns-in_err-write_escaped_byte-clause-written : goal.returns-in_err-write_escaped_byte-clause-written
returns-in_err-write_escaped_byte-clause-written g c =
    let all = c.args.bytes.now in
    let i = c.loop-b.b-index in
    let p = err_from_is_err_and c.from_residual.result c.from_residual.ensures.1 in
    rw p.1 (
    HasFront-then g.W.Write.contents c.args.writer.now c.loop-b.writer c.write_escaped_byte.new.writer _ _ _ _
    (flat_map-split escape_byte all i _ (take_more all i _
    (omega arith))) c.loop-b.invariant c.in_err-write_escaped_byte.ensures.written)
