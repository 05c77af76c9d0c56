use Rattle.std.proofs.Common.{◌∙◌, arith}
use Rattle.std.proofs.lemmas.Result.{IfOk-weaker}
use Rattle.serde_json.specs.Data.{string}
use Rattle.reg_lookup.proofs.ListTokens.{listed-all}
use Rattle.reg_lookup.proofs.bodies.subjects_body.Goals as goal

pub returns : goal.returns
returns c =
    IfOk-weaker c.ended.result _ _ (λ _ same.
    same
    ∙ listed-all string (λ x. x.now) c.args.subjects.now _ _ _ (omega arith) c.loop-subject.invariant.1 c.in_ok-end_array.ensures.ok) c.ended.ensures
