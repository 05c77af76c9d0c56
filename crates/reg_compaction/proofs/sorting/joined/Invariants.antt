use Rattle.std.proofs.Common.{◌≡◌, ◌++◌, map, take}
use Rattle.reg_journal.specs.Lines.{text_of}
use Rattle.reg_compaction.proofs.sorting.joined.Given as goal

abbrev pub invariant-loop-piece : goal.invariant-loop-piece
invariant-loop-piece l = l.text.items ≡ l.front ++ text_of (map (λ p. p.line.now) (take l.piece-index l.pieces))
