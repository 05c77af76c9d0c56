use Rattle.std.proofs.Common.{take, string_bytes}
use Rattle.avro_data.specs.Pieces.{pieces_text}
use Rattle.reg_program.specs.Waiting.{IsPut}
use Rattle.reg_program.proofs.text_writing.write_pieces.Given as goal

-- what stands up to there was put
abbrev pub invariant-loop-piece : goal.invariant-loop-piece
invariant-loop-piece g l = IsPut g.W.Write.contents l.initial.writer l.writer (string_bytes l.initial.waiting) (string_bytes l.waiting)
    (pieces_text (take l.piece-index l.pieces))
