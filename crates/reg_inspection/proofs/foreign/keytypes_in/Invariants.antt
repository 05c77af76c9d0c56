use Rattle.std.proofs.Common.{ℕ, List}
use Rattle.reg_fold.specs.reg_records.declared.record.Read.{Read}
use Rattle.reg_compaction.specs.Fronts.{HasLines}
use Rattle.reg_inspection.proofs.Lines.{GoesOn}
use Rattle.reg_inspection.proofs.foreign.keytypes_in.Given as goal

-- the keytypes of the lines that are left are what is left of all
abbrev pub invariant-loop-line : goal.invariant-loop-line
invariant-loop-line l =
    (lines : List (List ℕ)) (read : List Read) → HasLines l.fn.text lines read l.fn.count
    → GoesOn lines l.found.items l.rest l._line l.fn.count
