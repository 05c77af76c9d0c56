use Rattle.std.proofs.Common.{ℕ, List, ◌++◌}
use Rattle.reg_records.specs.declared.record.Read.{Read}
use Rattle.reg_follow.specs.Following.{HasTaken}
use Rattle.reg_follow.proofs.reading.publish_all.Given as goal

-- more lines were taken
abbrev pub invariant-loop-time : goal.invariant-loop-time
invariant-loop-time g l =
    (text : List ℕ) (read : List Read) → HasTaken text read l.fn.intake → (more : List Read) × HasTaken text (read ++ more) l.intake
