use Rattle.std.proofs.Common.{◌≡◌, length}
use Rattle.reg_messages.specs.Fields.{asks_to_close}
use Rattle.reg_messages.proofs.fields.asks_to_close.Given as goal

-- no field so far holds `close`
abbrev pub invariant-loop-value : goal.invariant-loop-value
invariant-loop-value g l = asks_to_close (g.F.Fields.fields l.fn.fields) ≡ asks_to_close (g.F.Fields.fields l.left)

abbrev pub decreases-loop-value : goal.decreases-loop-value
decreases-loop-value g l = length (g.F.Fields.fields l.left)
