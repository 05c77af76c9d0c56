use Rattle.std.proofs.Common.{◌≡◌, ◌≤◌, ◌+◌, ◌-◌, ℕ, List, length, true}
use Rattle.std.specs.Io.KnownBytes.{Consumes}
use Rattle.std.specs.List.{list_all}
use Rattle.reg_records.specs.Device.{KeepsEnd, bytes_in, faults_of}
use Rattle.reg_messages.specs.Head.{is_skipped}
use Rattle.reg_messages.specs.Taking.{CountsReads}
use Rattle.reg_messages.specs.declared.limits.TheConstants.{HEAD_LIMIT}
use Rattle.reg_messages.proofs.head.take_blank.Given as goal

-- all bytes so far are skipped
abbrev pub invariant-loop-count : goal.invariant-loop-count
invariant-loop-count g l =
    ((bytes : List ℕ) × (length bytes ≡ l.count) × (list_all is_skipped bytes ≡ true)
    × Consumes (bytes_in g.R.Read.remaining l.initial.reader) (bytes_in g.R.Read.remaining l.reader) bytes)
    × (faults_of l.reader ≡ faults_of l.initial.reader) × (l.count ≤ HEAD_LIMIT + 1)
    × CountsReads l.initial.reader l.reader × KeepsEnd g.R.Read.remaining l.initial.reader l.reader

abbrev pub decreases-loop-count : goal.decreases-loop-count
decreases-loop-count g l = HEAD_LIMIT + 1 - l.count
