use Rattle.std.proofs.Common.{take}
use Rattle.reg_program.specs.Telling.{parts_text}
use Rattle.reg_responses.specs.Writing.{HasWritten}
use Rattle.reg_program.proofs.telling.write_parts.Given as goal

-- what stands up to there is written
abbrev pub invariant-loop-part : goal.invariant-loop-part
invariant-loop-part g l = HasWritten g.E.Write.contents l.initial.errors l.errors (parts_text (take l.part-index l.parts))
