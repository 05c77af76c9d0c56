use Rattle.std.proofs.Common.{◌≡◌, ◌++◌, length}
use Rattle.reg_messages.proofs.placed.copied.Given as goal

-- the fields so far are copied
abbrev pub invariant-loop-name : goal.invariant-loop-name
invariant-loop-name g l = g.F.Fields.fields l.fn.fields ≡ l.copies.items ++ g.F.Fields.fields l.left

abbrev pub decreases-loop-name : goal.decreases-loop-name
decreases-loop-name g l = length (g.F.Fields.fields l.left)
