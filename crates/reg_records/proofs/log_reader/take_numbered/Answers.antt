use Rattle.std.proofs.Common.{refl}
use Rattle.reg_records.proofs.Logs.{ends_log-at_line}
use Rattle.reg_records.proofs.log_reader.take_numbered.Goals as goal

pub returns-then-is_empty-clause-taken : goal.returns-then-is_empty-clause-taken
returns-then-is_empty-clause-taken g c =
    let (line, none, read, held) = rw (c.in-Some.is, c.in-Line.is) at c.in_ok-next.ensures.taken in
    ends_log-at_line _ _ line ((c.if-is_empty.ensures line held).0 refl) read.0
