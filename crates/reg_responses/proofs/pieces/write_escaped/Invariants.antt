use Rattle.std.proofs.Common.{take}
use Rattle.json.specs.Print.{escape}
use Rattle.reg_responses.specs.Writing.{HasWritten}
use Rattle.reg_responses.proofs.pieces.write_escaped.Given as goal

-- what stands up to there is written
abbrev pub invariant-loop-b : goal.invariant-loop-b
invariant-loop-b g l = HasWritten g.W.Write.contents l.initial.writer l.writer (escape (take l.b-index l.bytes))
