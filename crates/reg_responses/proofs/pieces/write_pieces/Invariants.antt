use Rattle.std.proofs.Common.{take}
use Rattle.reg_responses.specs.Pieces.{pieces_text}
use Rattle.reg_responses.specs.Writing.{HasWritten}
use Rattle.reg_responses.proofs.pieces.write_pieces.Given as goal

-- what stands up to there is written
abbrev pub invariant-loop-piece : goal.invariant-loop-piece
invariant-loop-piece g l = HasWritten g.W.Write.contents l.initial.writer l.writer (pieces_text (take l.piece-index l.pieces))
