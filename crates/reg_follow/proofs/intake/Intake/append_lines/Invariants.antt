use Rattle.std.proofs.Common.{◌≡◌, ℕ, List, ◌++◌}
use Rattle.reg_records.specs.Device.{counted_by}
use Rattle.reg_records.specs.declared.record.Read.{Read}
use Rattle.reg_follow.specs.Following.{HasTaken}
use Rattle.reg_follow.proofs.intake.Intake.append_lines.Given as goal

-- more lines were taken, one each turn
abbrev pub invariant-loop-line : goal.invariant-loop-line
invariant-loop-line g l =
    (text : List ℕ) (read : List Read) → HasTaken text read l.fn.self
    → (more : List Read) × HasTaken text (read ++ more) l.self × (l.self.unread.count ≡ counted_by l._line l.fn.self.unread.count)
