use Rattle.std.proofs.Common.{◌≡◌, ◌≤◌, ◌*◌, ◌^◌, length, take}
use Rattle.reg_responses.specs.Pieces.{pieces_text}
use Rattle.reg_responses.proofs.pieces.pieces_len.Given as goal

-- the bytes so far are counted
abbrev pub invariant-loop-piece : goal.invariant-loop-piece
invariant-loop-piece l = (l.len ≡ length (pieces_text (take l.piece-index l.pieces))) × (l.len ≤ 2 ^ 80 * l.piece-index)
