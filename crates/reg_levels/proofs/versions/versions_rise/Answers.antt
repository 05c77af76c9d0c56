use Rattle.std.proofs.Common.{ap, arith}
use Rattle.std.proofs.lemmas.Bool.{false≢true}
use Rattle.reg_levels.proofs.Rising.{rising_more, not_rising}
use Rattle.reg_levels.proofs.versions.versions_rise.Goals as goal

pub returns-then-olds-place : goal.returns-then-olds-place
returns-then-olds-place g c =
    let p = ap (λ x. x.0) c.index-olds-place.is in
    let q = ap (λ x. x.0) c.index-olds-place-in-loop-place.is in (
      λ no. absurd (false≢true no),
      λ rise.
          absurd (
          not_rising c.args.olds.now c.loop-place.place c.index-olds-place.result c.index-olds-place-in-loop-place.result
          (omega arith) (omega arith) c.index-olds-place.is c.index-olds-place-in-loop-place.is (omega (arith, p, q)) rise),
    )

pub loop-place-preserved : goal.loop-place-preserved
loop-place-preserved g c =
    let p = ap (λ x. x.0) c.index-olds-place.is in
    let q = ap (λ x. x.0) c.index-olds-place-in-loop-place.is in
    rising_more c.args.olds.now c.loop-place.place c.index-olds-place.result c.index-olds-place-in-loop-place.result (omega arith)
    (omega arith) c.index-olds-place.is c.index-olds-place-in-loop-place.is (omega (arith, p, q)) c.loop-place.invariant
