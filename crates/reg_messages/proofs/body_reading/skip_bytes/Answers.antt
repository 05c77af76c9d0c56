use Rattle.std.proofs.Common.{◌++◌, ℕ, take, ◌∙◌, arith, length-append, length-take}
use Rattle.std.proofs.KnownBytes.{Consumes-trans}
use Rattle.reg_records.proofs.Ends.{ends_then}
use Rattle.reg_messages.proofs.Counts.{counts_then}
use Rattle.reg_messages.proofs.body_reading.skip_bytes.Goals as goal

pub loop-left-preserved : goal.loop-left-preserved
loop-left-preserved g c =
    let ((bytes, many, took), faults, reads, end) = c.loop-left.invariant in
    let now = c.in-Ok in
    let piece = take now.n c.take_some.new.buffer in (
      (
        bytes ++ piece,
        omega (arith, many, length-append bytes piece, length-take {A = ℕ}, now.ensures.fits, c.take_some.auto.buffer),
        Consumes-trans _ _ _ bytes piece took now.ensures.taken.0,
      ),
      now.ensures.faults ∙ faults,
      counts_then c.args.reader.now c.loop-left.reader c.take_some.new.reader reads c.take_some.ensures.reads,
      ends_then g.R.Read.remaining c.args.reader.now c.loop-left.reader c.take_some.new.reader end c.take_some.ensures.end,
    )
