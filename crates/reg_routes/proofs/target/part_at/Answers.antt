use Rattle.std.proofs.Common.{◌≡◌, ◌+◌, ◌-◌, ◌<◌, ℕ, suc, sym, ap, ◌∙◌, arith}
use Rattle.reg_routes.specs.Target.{part_at}
use Rattle.reg_routes.proofs.target.part_at.Goals as goal

-- one slash less is left
one_less : (place i : ℕ) → i < place → place - i ≡ suc (place - (i + 1))
one_less place i within = omega (arith, within)

pub loop-i-preserved : goal.loop-i-preserved
loop-i-preserved c =
    c.loop-i.invariant
    ∙ ap (λ n. part_at n c.loop-i.rest.now) (one_less c.args.place c.loop-i._i (omega arith))
    ∙ ap (λ rest. part_at (c.args.place - (c.loop-i._i + 1)) rest) (sym c.split_once.ensures.after)
