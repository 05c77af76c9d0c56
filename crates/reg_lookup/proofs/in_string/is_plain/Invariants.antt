use Rattle.std.proofs.Common.{◌≡◌, IsTrue, take}
use Rattle.json.specs.Print.{escape}
use Rattle.reg_lookup.proofs.in_string.is_plain.Given as goal

-- the bytes so far stand as they are, if all were plain
abbrev pub invariant-loop-byte : goal.invariant-loop-byte
invariant-loop-byte l = IsTrue l.plain → escape (take l.byte-index l.byte-items) ≡ take l.byte-index l.byte-items
