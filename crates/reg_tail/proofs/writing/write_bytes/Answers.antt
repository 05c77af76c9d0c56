use Rattle.std.proofs.Common.{◌+◌, ◌≤◌, length, sym, subst}
use Rattle.std.specs.Io.KnownBytes.{Appends}
use Rattle.std.proofs.KnownBytes.{Appends-trans}
use Rattle.std.proofs.lemmas.Result.{err_from_is_err_and}
use Rattle.reg_tail.proofs.Writes.{cut_behind, fits-rest, take-rest}
use Rattle.reg_tail.proofs.writing.write_bytes.Goals as goal

pub returns-in_err-at-clause-cut : goal.returns-in_err-at-clause-cut
returns-in_err-at-clause-cut g c =
    let (written, within) = c.loop-at.invariant in
    let p = err_from_is_err_and c.from_residual.result c.from_residual.ensures.1 in
    rw p.1 (
    cut_behind g.W.Write.contents g.W.Output.writes g.W.Output.flushes c.args.bytes.now c.loop-at.at
    c.args.writer.now c.loop-at.writer c.write_some.new.writer written c.in_err-at.ensures.kept c.in_err-at.ensures.failed
    )

pub loop-at-preserved : goal.loop-at-preserved
loop-at-preserved g c =
    let (written, within) = c.loop-at.invariant in
    let n = c.in_ok-at.field-0 in
    let some = c.in_ok-at.ensures.some in
    let whole = take-rest c.args.bytes.now c.loop-at.at n within some.1 in
    let fits : c.loop-at.at + n ≤ length c.args.bytes.now = fits-rest c.args.bytes.now c.loop-at.at n within some.1 in
    (subst (Appends _ _) (sym whole) (Appends-trans _ _ _ _ _ written c.in_ok-at.ensures.written), fits)
