use Rattle.std.proofs.Common.{◌≡◌, ◌≤◌, ◌<◌, ◌+◌, ◌*◌}
use Rattle.reg_records.specs.Device.{KeepsEnd, all_interruptions_of, all_reads_of}
use Rattle.reg_records.specs.Device.{bytes_in, counted_by, faults_of}
use Rattle.reg_records.specs.Device.{interruptions_of, reads_of}
use Rattle.reg_messages.specs.declared.limits.TheConstants.{REQUEST_READS}
use Rattle.reg_responses.specs.declared.limits.TheConstants.{INTERRUPTION_LIMIT}
use Rattle.reg_http.specs.Ends.{EndsAfter}
use Rattle.reg_http.specs.ServeSteps.{HasAnswered}
use Rattle.reg_http.proofs.serving.serve.Given as goal

-- the requests so far are answered, no fault was counted, and no more was read than may be
abbrev pub invariant-loop-requests : goal.invariant-loop-requests
invariant-loop-requests g l =
    HasAnswered g.D.Desk.asks g.D.Desk.commands l.fn.desk (bytes_in g.R.Read.remaining l.fn.reader) l.requests
    (bytes_in g.W.Write.contents l.fn.writer) (bytes_in g.W.Write.contents l.writer) (bytes_in g.R.Read.remaining l.reader) l.desk
    × (faults_of l.reader ≡ faults_of l.fn.reader) × (faults_of l.writer ≡ faults_of l.fn.writer)
    × (
    (0 < l.requests → reads_of l.reader ≤ REQUEST_READS) × (all_reads_of l.reader ≤ all_reads_of l.fn.reader + l.requests * REQUEST_READS)
    × (interruptions_of l.writer ≤ INTERRUPTION_LIMIT))
    × (counted_by 0 (all_reads_of l.fn.reader) ≤ all_reads_of l.reader) × KeepsEnd g.R.Read.remaining l.fn.reader l.reader
    × (counted_by 0 (all_interruptions_of l.fn.writer) ≤ all_interruptions_of l.writer)
    × EndsAfter g.W.Output.writes g.W.Output.flushes l.requests l.fn.writer l.writer
