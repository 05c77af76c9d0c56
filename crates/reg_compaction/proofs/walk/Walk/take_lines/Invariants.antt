use Rattle.std.proofs.Common.{ℕ, List}
use Rattle.reg_records.specs.declared.record.Read.{Read}
use Rattle.reg_compaction.specs.Fronts.{HasLines}
use Rattle.reg_compaction.proofs.Walked.{GoesOn}
use Rattle.reg_compaction.proofs.walk.Walk.take_lines.Given as goal

-- what is left of the lines comes to what all of them come to
abbrev pub invariant-loop-line : goal.invariant-loop-line
invariant-loop-line l = (lines : List (List ℕ)) (read : List Read) → HasLines l.fn.text lines read l.fn.count
    → GoesOn l.fn.top lines read l.fn.self l.self l.rest l._line l.fn.count
