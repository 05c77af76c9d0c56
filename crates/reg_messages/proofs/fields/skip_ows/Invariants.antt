use Rattle.std.proofs.Common.{◌≡◌, length}
use Rattle.httparse.specs.Grammar.{skip_ows}
use Rattle.reg_messages.proofs.fields.skip_ows.Given as goal

-- the bytes so far are white space
abbrev pub invariant-loop-left : goal.invariant-loop-left
invariant-loop-left l = skip_ows l.bytes ≡ skip_ows l.left

abbrev pub decreases-loop-left : goal.decreases-loop-left
decreases-loop-left l = length l.left
