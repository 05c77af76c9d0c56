use Rattle.std.proofs.Common.{◌≡◌, rules}
use Rattle.std.specs.Prelude.{◌≢◌}
use Rattle.std.specs.IoError.{error_kind}
use Rattle.std.specs.declared.io.ErrorKind.TheVariants.{Interrupted}
use Rattle.reg_responses.proofs.Ended.{failed_by_write, lost_by_write}
use Rattle.reg_responses.proofs.writing.write_some.Goals as goal

pub returns-then-ne-clause-cause : goal.returns-then-ne-clause-cause
returns-then-ne-clause-cause g c =
    let kind : error_kind c.in-Err.e ≢ Interrupted = search rules in
    lost_by_write g.W.Output.writes g.W.Output.flushes c.loop-i.writer c.write.new.self c.args.bytes.now c.in-Err.e
    (c.in-Err.ensures.interruptions.1 kind).0 kind c.in-Err.ensures.answer

pub loop-i-preserved : goal.loop-i-preserved
loop-i-preserved g c =
    let kind : error_kind c.in-Err.e ≡ Interrupted = search rules in
    let failed = failed_by_write g.W.Output.writes g.W.Output.flushes c.loop-i.writer
    c.write.new.self c.args.bytes.now c.in-Err.e c.in-Err.ensures.answer in
    (search rules, search rules, search rules, search rules, λ _. (c.in-Err.e, kind, failed))
