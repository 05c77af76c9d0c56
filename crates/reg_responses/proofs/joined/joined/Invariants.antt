use Rattle.std.proofs.Common.{◌≡◌, string_bytes, take}
use Rattle.reg_responses.specs.Pieces.{pieces_text}
use Rattle.reg_responses.proofs.joined.joined.Given as goal

-- what stands up to there is joined
abbrev pub invariant-loop-piece : goal.invariant-loop-piece
invariant-loop-piece l = string_bytes l.text ≡ pieces_text (take l.piece-index l.pieces)
