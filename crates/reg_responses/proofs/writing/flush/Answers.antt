use Rattle.std.proofs.Common.{rules}
use Rattle.std.specs.Prelude.{◌≢◌}
use Rattle.std.specs.IoError.{error_kind}
use Rattle.std.specs.declared.io.ErrorKind.TheVariants.{Interrupted}
use Rattle.reg_responses.proofs.Ended.{lost_by_flush}
use Rattle.reg_responses.proofs.writing.flush.Goals as goal

pub returns-then-ne-clause-ended : goal.returns-then-ne-clause-ended
returns-then-ne-clause-ended g c =
    let kind : error_kind c.in-Err.e ≢ Interrupted = search rules in
    lost_by_flush g.W.Output.writes g.W.Output.flushes c.loop-i.writer c.flush.new.self c.in-Err.e
    (c.in-Err.ensures.interruptions.1 kind).0 kind c.in-Err.ensures.answer
