use Rattle.std.proofs.Common.{◌≡◌, length}
use Rattle.reg_connection.specs.TurnKinds.{skip_blank}
use Rattle.reg_connection.proofs.turn_kinds.skip_blank.Given as goal

-- the bytes so far are skipped
abbrev pub invariant-loop-left : goal.invariant-loop-left
invariant-loop-left l = skip_blank l.bytes ≡ skip_blank l.left

abbrev pub decreases-loop-left : goal.decreases-loop-left
decreases-loop-left l = length l.left
