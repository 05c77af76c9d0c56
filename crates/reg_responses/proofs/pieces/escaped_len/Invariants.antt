use Rattle.std.proofs.Common.{◌≡◌, ◌≤◌, ◌*◌, length, take}
use Rattle.json.specs.Print.{escape}
use Rattle.reg_responses.proofs.pieces.escaped_len.Given as goal

-- the bytes so far are counted
abbrev pub invariant-loop-b : goal.invariant-loop-b
invariant-loop-b l = (l.len ≡ length (escape (take l.b-index l.text))) × (l.len ≤ 6 * l.b-index)
