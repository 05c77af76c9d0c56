use Rattle.std.proofs.Common.{◌≡◌, ◌+◌, length}
use Rattle.std.specs.Io.KnownBytes.{Consumes}
use Rattle.reg_records.specs.Device.{KeepsEnd, bytes_in, faults_of}
use Rattle.reg_messages.specs.Taking.{CountsReads}
use Rattle.reg_messages.proofs.body_reading.fill_body.Given as goal

-- the bytes so far are taken, and kept
abbrev pub invariant-loop-left : goal.invariant-loop-left
invariant-loop-left g l =
    (length l.bytes.items + l.left ≡ l.len)
    × Consumes (bytes_in g.R.Read.remaining l.initial.reader) (bytes_in g.R.Read.remaining l.reader) l.bytes.items
    × (faults_of l.reader ≡ faults_of l.initial.reader) × CountsReads l.initial.reader l.reader
    × KeepsEnd g.R.Read.remaining l.initial.reader l.reader

abbrev pub decreases-loop-left : goal.decreases-loop-left
decreases-loop-left g l = l.left
