use Rattle.std.proofs.Common.{◌≡◌, ◌-◌}
use Rattle.reg_routes.specs.Target.{part_at}
use Rattle.reg_routes.proofs.target.part_at.Given as goal

-- what is looked for stands so many slashes further on in the rest
abbrev pub invariant-loop-i : goal.invariant-loop-i
invariant-loop-i l = part_at l.place l.path ≡ part_at (l.place - l._i) l.rest
