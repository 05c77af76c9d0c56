use Rattle.std.proofs.Common.{[]}
use Rattle.reg_responses.proofs.Written.{HasWritten-begun, Writes-flushed, Writes-then}
use Rattle.reg_responses.proofs.writing.write_whole.Goals as goal

pub returns-clause-written : goal.returns-clause-written
returns-clause-written g c =
    let begun = HasWritten-begun g.W.Write.contents c.args.writer.now c.begin_count.new.self c.begin_count.ensures.inner
    c.begin_count.ensures.faults c.begin_count.ensures.interruptions c.begin_count.ensures.all_interruptions in
    Writes-then g.W.Write.contents c.args.writer.now c.begin_count.new.self c.flush.new.writer [] c.args.bytes.now _ begun
    (Writes-flushed g.W.Write.contents c.begin_count.new.self c.write_bytes.new.writer c.flush.new.writer
    c.args.bytes.now _ c.in_ok-write_bytes.ensures.written c.flush.ensures.written)
