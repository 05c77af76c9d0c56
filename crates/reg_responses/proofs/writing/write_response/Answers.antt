use Rattle.std.proofs.Common.{[], refl}
use Rattle.std.proofs.lemmas.Result.{err_from_is_err_and}
use Rattle.reg_responses.specs.Pieces.{pieces_text}
use Rattle.reg_responses.specs.Response.{response_text}
use Rattle.reg_responses.proofs.Written.{HasFront-then, HasWritten-begun, Writes-then}
use Rattle.reg_responses.proofs.writing.write_response.Goals as goal

pub returns-in_err-write_head-clause-written : goal.returns-in_err-write_head-clause-written
unfolding response_text
returns-in_err-write_head-clause-written g c =
    let begun = HasWritten-begun g.W.Write.contents c.args.writer.now c.begin_count.new.self c.begin_count.ensures.inner
    c.begin_count.ensures.faults c.begin_count.ensures.interruptions c.begin_count.ensures.all_interruptions in
    let lost = rw c.pieces_len.ensures at c.in_err-write_head.ensures.written in
    let p = err_from_is_err_and c.from_residual.result c.from_residual.ensures.1 in
    rw p.1 (
    HasFront-then g.W.Write.contents c.args.writer.now c.begin_count.new.self c.write_head.new.writer
    [] _ (pieces_text c.args.body.now) _ refl begun lost)

pub returns-clause-written : goal.returns-clause-written
unfolding response_text
returns-clause-written g c =
    let begun = HasWritten-begun g.W.Write.contents c.args.writer.now c.begin_count.new.self c.begin_count.ensures.inner
    c.begin_count.ensures.faults c.begin_count.ensures.interruptions c.begin_count.ensures.all_interruptions in
    let head = rw c.pieces_len.ensures at c.in_ok-write_head.ensures.written in
    Writes-then g.W.Write.contents c.args.writer.now c.begin_count.new.self c.write_body.new.writer [] _ _ begun
    (Writes-then g.W.Write.contents c.begin_count.new.self c.write_head.new.writer c.write_body.new.writer _
    (pieces_text c.args.body.now) _ head c.write_body.ensures.written)
