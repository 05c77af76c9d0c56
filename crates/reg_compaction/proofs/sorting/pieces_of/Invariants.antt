use Rattle.std.proofs.Common.{◌≡◌, ◌≤◌, ℕ, List, length}
use Rattle.reg_journal.specs.Lines.{Say, text_of}
use Rattle.reg_records.specs.declared.record.Read.{Read}
use Rattle.reg_compaction.proofs.Pieces.{GoesOn}
use Rattle.reg_compaction.proofs.sorting.pieces_of.Given as goal

-- the lines that are left are those of which there is no piece yet
abbrev pub invariant-loop-line : goal.invariant-loop-line
invariant-loop-line l =
    (lines : List (List ℕ)) (read : List Read) → length l.fn.text ≤ l.fn.count → l.fn.text ≡ text_of lines
    → Say lines read → GoesOn lines l.pieces.items l.rest l._line l.fn.count
