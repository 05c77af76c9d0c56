use Rattle.reg_responses.specs.Pieces.{pieces_text}
use Rattle.reg_responses.proofs.Written.{Writes-flushed}
use Rattle.reg_responses.proofs.writing.write_body.Goals as goal

pub returns-clause-written : goal.returns-clause-written
returns-clause-written g c =
    Writes-flushed g.W.Write.contents c.args.writer.now c.write_pieces.new.writer c.flush.new.writer
    (pieces_text c.args.body.now) _ c.in_ok-write_pieces.ensures.written c.flush.ensures.written
