use Rattle.std.proofs.Common.{◌≡◌, ◌-◌}
use Rattle.std.specs.Io.KnownBytes.{Keeps}
use Rattle.reg_records.specs.Device.{KeepsEnd, bytes_in, faults_of, reads_of}
use Rattle.reg_messages.specs.Taking.{CountsReads}
use Rattle.reg_messages.specs.declared.limits.TheConstants.{REQUEST_READS}
use Rattle.reg_messages.proofs.taking.take_some.Given as goal

-- each read so far was interrupted
abbrev pub invariant-loop-reader : goal.invariant-loop-reader
invariant-loop-reader g l =
    Keeps (bytes_in g.R.Read.remaining l.initial.reader) (bytes_in g.R.Read.remaining l.reader)
    × (faults_of l.reader ≡ faults_of l.initial.reader) × CountsReads l.initial.reader l.reader
    × KeepsEnd g.R.Read.remaining l.initial.reader l.reader

abbrev pub decreases-loop-reader : goal.decreases-loop-reader
decreases-loop-reader g l = REQUEST_READS - reads_of l.reader
