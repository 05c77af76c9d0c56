use Rattle.std.proofs.Common.{◌+◌, ◌≤◌, length, take, drop, sym, subst, ◌∙◌, arith, take-append-drop}
use Rattle.std.specs.Io.KnownBytes.{Appends}
use Rattle.std.proofs.KnownBytes.{Appends-trans, Appends-kept}
use Rattle.std.proofs.lemmas.Result.{err_from_is_err_and}
use Rattle.reg_responses.proofs.Written.{IsLostSince-later, LosesWriter-later, take-rest, fits-rest}
use Rattle.reg_responses.proofs.writing.write_bytes.Goals as goal

pub returns-in_err-at-clause-written : goal.returns-in_err-at-clause-written
returns-in_err-at-clause-written g c =
    let ((written, faults, interruptions, least), within) = c.loop-at.invariant in
    let lost = c.in_err-at.ensures.lost in
    let bytes = c.args.bytes.now in
    let at = c.loop-at.at in
    let p = err_from_is_err_and c.from_residual.result c.from_residual.ensures.1 in
    rw p.1 (
      LosesWriter-later c.args.writer.now c.loop-at.writer c.write_some.new.writer faults lost.0,
      (take at bytes, drop at bytes, sym (take-append-drop at bytes), Appends-kept _ _ _ (take at bytes) written lost.1),
      IsLostSince-later c.args.writer.now c.loop-at.writer c.write_some.new.writer faults least lost.2,
    )

pub loop-at-preserved : goal.loop-at-preserved
loop-at-preserved g c =
    let ((written, faults, interruptions, least), within) = c.loop-at.invariant in
    let n = c.in_ok-at.field-0 in
    let some = c.in_ok-at.ensures.some in
    let more = c.in_ok-at.ensures.written in
    let whole = take-rest c.args.bytes.now c.loop-at.at n within some.1 in
    let fits : c.loop-at.at + n ≤ length c.args.bytes.now = fits-rest c.args.bytes.now c.loop-at.at n within some.1 in (
      (subst (Appends _ _) (sym whole) (Appends-trans _ _ _ _ _ written more.0), more.1 ∙ faults, more.2, omega (arith, least, more.3)),
      fits,
    )
