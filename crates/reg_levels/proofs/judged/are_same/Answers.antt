use Rattle.std.proofs.Common.{refl, arith}
use Rattle.reg_levels.proofs.Alike.{alike_more}
use Rattle.reg_levels.proofs.judged.are_same.Goals as goal

pub loop-place-preserved : goal.loop-place-preserved
loop-place-preserved c =
    alike_more c.args.kept.now c.args.olds.now (λ old. (old.0, old.1.now)) c.loop-place.place c.index-kept-place.result _
    (omega arith) (omega arith) c.index-kept-place.is (c.if-not-is_same.ensures.0 refl) c.loop-place.invariant
