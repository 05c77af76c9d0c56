use Rattle.std.proofs.Common.{◌++◌, ℕ, List}
use Rattle.reg_journal.specs.Lines.{text_of}
use Rattle.reg_fold.specs.reg_records.declared.record.Read.{Read}
use Rattle.reg_compaction.specs.Fronts.{HasLines}
use Rattle.reg_base.specs.Base.{lines_below}
use Rattle.reg_base.proofs.Lines.{GoesOn}
use Rattle.reg_base.proofs.below.push_below.Given as goal

-- the lines that are left are those which were not looked at yet
abbrev pub invariant-loop-line : goal.invariant-loop-line
invariant-loop-line l =
    (lines : List (List ℕ)) (read : List Read) → HasLines l.fn.text lines read l.fn.count
    → GoesOn l.fn.below (l.fn.part.items ++ text_of (lines_below l.fn.below lines read)) l.part.items l.rest l._line l.fn.count
