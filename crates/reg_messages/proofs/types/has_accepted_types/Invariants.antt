use Rattle.std.proofs.Common.{◌≡◌, length}
use Rattle.reg_messages.specs.Types.{has_accepted_types}
use Rattle.reg_messages.proofs.types.has_accepted_types.Given as goal

-- the types so far are accepted
abbrev pub invariant-loop-value : goal.invariant-loop-value
invariant-loop-value g l = has_accepted_types (g.F.Fields.fields l.fn.fields) ≡ has_accepted_types (g.F.Fields.fields l.left)

abbrev pub decreases-loop-value : goal.decreases-loop-value
decreases-loop-value g l = length (g.F.Fields.fields l.left)
