use Rattle.std.proofs.Common.{◌≡◌, ◌≤◌, length}
use Rattle.reg_messages.specs.Fields.{values_of}
use Rattle.reg_messages.proofs.fields.find_value.Given as goal

-- the fields so far have another name
abbrev pub invariant-loop-field : goal.invariant-loop-field
invariant-loop-field g l =
    (values_of l.name (g.F.Fields.fields l.fn.fields) ≡ values_of l.name (g.F.Fields.fields l.left))
    × (length (g.F.Fields.fields l.left) ≤ length (g.F.Fields.fields l.fn.fields))

abbrev pub decreases-loop-field : goal.decreases-loop-field
decreases-loop-field g l = length (g.F.Fields.fields l.left)
