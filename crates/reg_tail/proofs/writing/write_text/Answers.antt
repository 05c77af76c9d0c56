use Rattle.reg_tail.proofs.Writes.{cut_at_end}
use Rattle.reg_tail.proofs.writing.write_text.Goals as goal

pub returns-in-Err-clause-cut : goal.returns-in-Err-clause-cut
returns-in-Err-clause-cut g c =
    cut_at_end g.W.Write.contents g.W.Output.writes g.W.Output.flushes c.args.text.now c.args.writer.now c.write_bytes.new.writer
    c.flush_out.new.self c.in-Err.field-0 c.in_ok-write_bytes.ensures.written c.in-Err.ensures.bytes c.in-Err.ensures.answer
