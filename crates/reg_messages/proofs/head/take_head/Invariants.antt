use Rattle.std.proofs.Common.{◌≡◌, ◌≤◌, ◌+◌, ◌-◌, ◌++◌, ℕ, List, length, take}
use Rattle.std.specs.Io.KnownBytes.{Consumes}
use Rattle.reg_records.specs.Device.{KeepsEnd, bytes_in, faults_of}
use Rattle.reg_messages.specs.HeadReading.{HasNoEnd}
use Rattle.reg_messages.specs.Taking.{CountsReads}
use Rattle.reg_messages.proofs.head.take_head.Given as goal

-- the bytes taken so far are in the buffer, and none ends an empty line
abbrev pub invariant-loop-len : goal.invariant-loop-len
invariant-loop-len g l =
    ((taken : List ℕ) × (length taken + 1 ≡ l.len)
    × (take l.len l.buffer ≡ take 1 l.initial.buffer ++ taken) × HasNoEnd (take 1 l.initial.buffer) taken
    × Consumes (bytes_in g.R.Read.remaining l.initial.reader) (bytes_in g.R.Read.remaining l.reader) taken)
    × (faults_of l.reader ≡ faults_of l.initial.reader) × (l.len ≤ l.limit)
    × CountsReads l.initial.reader l.reader × KeepsEnd g.R.Read.remaining l.initial.reader l.reader

abbrev pub decreases-loop-len : goal.decreases-loop-len
decreases-loop-len g l = l.limit - l.len
