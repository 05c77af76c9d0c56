use Rattle.std.proofs.Common.{◌≡◌, ◌≤◌, ◌*◌, length, take}
use Rattle.reg_responses.specs.Pieces.{listed_more}
use Rattle.reg_responses.proofs.pieces.more_len.Given as goal

-- the bytes so far are counted
abbrev pub invariant-loop-number : goal.invariant-loop-number
invariant-loop-number l = (l.len ≡ length (listed_more (take l.number-index l.numbers))) × (l.len ≤ 41 * l.number-index)
