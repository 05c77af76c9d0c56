use Rattle.std.proofs.Common.{◌≡◌, map, replicate}
use Rattle.reg_pen.proofs.pen.new_passes.Given as goal

abbrev pub invariant-loop-pass : goal.invariant-loop-pass
invariant-loop-pass g l = map (λ p. p.submits) l.passes.items ≡ replicate l._pass 0
