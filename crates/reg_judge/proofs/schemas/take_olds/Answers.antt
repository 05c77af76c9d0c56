use Rattle.std.proofs.Common.{◌+◌, arith, refl, ◌∙◌}
use Rattle.std.proofs.lemmas.Grind.{common_steps}
use Rattle.reg_judge.proofs.TextsOut.{loses_some, on_err, out_more}
use Rattle.reg_judge.proofs.schemas.take_olds.Goals as goal

pub returns-in_err-source-clause-out_by_then : goal.returns-in_err-source-clause-out_by_then
returns-in_err-source-clause-out_by_then c =
    let i = c.loop-old.old-index in
    on_err c.from_residual.result _ (loses_some c.args.olds.now (i + 1) _ _
    (out_more c.args.olds.now i _ _ _ _ _ c.loop-old-test.true refl c.loop-old.invariant.out c.take.ensures.out))

pub returns-in_default-clause-out_by_then : goal.returns-in_default-clause-out_by_then
returns-in_default-clause-out_by_then c =
    let i = c.loop-old.old-index in
    loses_some c.args.olds.now (i + 1) _ _
    (out_more c.args.olds.now i _ _ _ _ _ c.loop-old-test.true refl c.loop-old.invariant.out c.take.ensures.out)

pub returns-in_err-push-clause-out_by_then : goal.returns-in_err-push-clause-out_by_then
returns-in_err-push-clause-out_by_then c =
    let i = c.loop-old.old-index in
    on_err c.from_residual-in_err-push.result _ (loses_some c.args.olds.now (i + 1) _ _
    (out_more c.args.olds.now i _ _ _ _ _ c.loop-old-test.true refl c.loop-old.invariant.out c.take.ensures.out))

pub loop-old-preserved : goal.loop-old-preserved
loop-old-preserved c = record {
  left = c.take.ensures.left;
  capacity = c.take.ensures.capacity ∙ c.loop-old.invariant.capacity;
  out = out_more c.args.olds.now c.loop-old.old-index _ _ _ _ _ c.loop-old-test.true refl c.loop-old.invariant.out c.take.ensures.out;
  texts = grind (arith, common_steps);
  rest = grind (arith, common_steps);
}
