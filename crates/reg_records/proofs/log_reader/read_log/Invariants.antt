use Rattle.std.proofs.Common.{◌≡◌, ◌≤◌, ◌+◌, ◌*◌, ◌-◌, ℕ, List, length}
use Rattle.std.specs.Prelude.{count_by}
use Rattle.std.specs.Io.KnownBytes.{Consumes}
use Rattle.reg_records.specs.Device.{KeepsEnd, all_reads_of, bytes_in, counted_by, faults_of, place_of}
use Rattle.reg_records.specs.Line.{is_line_feed}
use Rattle.reg_records.specs.Log.{AreWholeLines, IsLogOf}
use Rattle.reg_records.specs.declared.limits.TheConstants.{LINE_READS, LOG_LINES}
use Rattle.reg_records.specs.declared.record.Read.{Read}
use Rattle.reg_records.proofs.Logs.{GoesOn}
use Rattle.reg_records.proofs.log_reader.read_log.Given as goal

-- the log holds what the lines so far say, of which one may be the floor's, and what is left begins with the line of that number
abbrev pub invariant-loop-log : goal.invariant-loop-log
invariant-loop-log g l =
    (floor : ℕ) × (reads : List Read) × IsLogOf floor reads l.log × (length reads + 1 ≤ l.number)
    × (l.number ≤ length reads + 2) × (l.number ≤ LOG_LINES + 1)
    × ((taken : List ℕ) × Consumes (bytes_in g.R.Read.remaining l.fn.reader) (bytes_in g.R.Read.remaining l.reader) taken
    × (count_by is_line_feed taken + 1 ≡ l.number) × AreWholeLines taken
    × (counted_by 0 (place_of l.reader) ≡ counted_by (length taken) (place_of l.fn.reader)))
    × GoesOn (bytes_in g.R.Read.remaining l.fn.reader) (bytes_in g.R.Read.remaining l.reader) floor reads l.number
    × (faults_of l.reader ≡ faults_of l.fn.reader) × (counted_by 0 (all_reads_of l.fn.reader) ≤ all_reads_of l.reader)
    × (all_reads_of l.reader + LINE_READS ≤ all_reads_of l.fn.reader + l.number * LINE_READS)
    × KeepsEnd g.R.Read.remaining l.fn.reader l.reader

abbrev pub decreases-loop-log : goal.decreases-loop-log
decreases-loop-log g l = LOG_LINES + 2 - l.number
