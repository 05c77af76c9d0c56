use Rattle.std.proofs.Common.{ℕ, List}
use Rattle.reg_records.specs.declared.record.Read.{Read}
use Rattle.reg_follow.specs.Following.{Follows, HasTaken, IsShown}
use Rattle.reg_follow.proofs.reading.follow_lines.Given as goal

-- what was read of the reader is behind the text, and more lines of that were taken; no whole line waits, if none did at first
abbrev pub invariant-loop-read : goal.invariant-loop-read
invariant-loop-read g l =
    (text : List ℕ) (read : List Read) → HasTaken text read l.fn.intake
    → Follows (g.B.Read.remaining l.fn.reader) (g.B.Read.remaining l.reader) text read l.intake × (IsShown l.fn.intake → IsShown l.intake)
