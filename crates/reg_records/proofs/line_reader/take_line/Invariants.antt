use Rattle.std.proofs.Common.{◌≡◌, ℕ, List, length}
use Rattle.std.specs.Io.KnownBytes.{Consumes}
use Rattle.reg_records.specs.Device.{all_reads_of, begun_of, bytes_in, counted_by, faults_of, place_of, reads_of}
use Rattle.reg_records.specs.Pieces.{HasNoLineFeed, Holds}
use Rattle.reg_records.proofs.line_reader.take_line.Given as goal

-- the line so far has no LF, each turn made one read for it, counted from its front on, and no fault was counted
abbrev pub invariant-loop-i : goal.invariant-loop-i
invariant-loop-i g l =
    (line : List ℕ) × HasNoLineFeed line × Holds l.line line
    × Consumes (bytes_in g.R.Read.remaining l.fn.reader) (bytes_in g.R.Read.remaining l.reader) line
    × (faults_of l.reader ≡ faults_of l.fn.reader) × (reads_of l.reader ≡ l._i)
    × (all_reads_of l.reader ≡ counted_by l._i (all_reads_of l.fn.reader))
    × (counted_by 0 (place_of l.reader) ≡ counted_by (length line) (place_of l.fn.reader)) × (begun_of l.reader ≡ place_of l.fn.reader)
