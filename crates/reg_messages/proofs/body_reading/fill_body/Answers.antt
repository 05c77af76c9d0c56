use Rattle.std.proofs.Common.{◌++◌, ℕ, take, arith, length-append, length-take}
use Rattle.std.proofs.KnownBytes.{Consumes-trans}
use Rattle.reg_messages.proofs.body_reading.fill_body.Goals as goal

pub returns-then-is_err-clause-taken : goal.returns-then-is_err-clause-taken
returns-then-is_err-clause-taken g c =
    let (many, took, faults, reads, end) = c.loop-left.invariant in
    let items = c.loop-left.bytes.items in
    let piece = take c.in-Ok.n c.take_some.new.buffer in
    c.drop_body.ensures.taken (g.R.Read.remaining c.args.reader.now.inner) (items ++ piece) c.args.len
    (Consumes-trans _ _ _ items piece took c.in-Ok.ensures.taken.0)
    (omega (arith, many, length-append items piece, length-take {A = ℕ}, c.in-Ok.ensures.fits, c.take_some.auto.buffer))

pub returns-then-is_err-clause-short : goal.returns-then-is_err-clause-short
returns-then-is_err-clause-short g c =
    let (many, took, faults, reads, end) = c.loop-left.invariant in
    let items = c.loop-left.bytes.items in
    let piece = take c.in-Ok.n c.take_some.new.buffer in
    c.drop_body.ensures.short (g.R.Read.remaining c.args.reader.now.inner) (items ++ piece) c.args.len
    (Consumes-trans _ _ _ items piece took c.in-Ok.ensures.taken.0)
    (omega (arith, many, length-append items piece, length-take {A = ℕ}, c.in-Ok.ensures.fits, c.take_some.auto.buffer))
