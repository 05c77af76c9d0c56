use Rattle.std.proofs.Common.{take}
use Rattle.reg_responses.specs.Pieces.{listed_more}
use Rattle.reg_responses.specs.Writing.{HasWritten}
use Rattle.reg_responses.proofs.pieces.write_more.Given as goal

-- what stands up to there is written
abbrev pub invariant-loop-number : goal.invariant-loop-number
invariant-loop-number g l = HasWritten g.W.Write.contents l.initial.writer l.writer (listed_more (take l.number-index l.numbers))
