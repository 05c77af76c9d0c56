use Rattle.std.proofs.Common.{length, ◌-◌, ◌≤◌, [], take}
use Rattle.reg_messages.specs.HeadReading.{HasNoEnd}
use Rattle.reg_messages.proofs.lines.head_len.Given as goal

-- none of the bytes so far ends an empty line
abbrev pub invariant-loop-len : goal.invariant-loop-len
invariant-loop-len l = (l.len ≤ length l.bytes) × HasNoEnd [] (take l.len l.bytes)

abbrev pub decreases-loop-len : goal.decreases-loop-len
decreases-loop-len l = length l.bytes - l.len
