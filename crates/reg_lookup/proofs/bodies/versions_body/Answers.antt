use Rattle.std.proofs.Common.{◌∙◌, arith}
use Rattle.std.proofs.lemmas.Result.{IfOk-weaker}
use Rattle.reg_lookup.specs.Bodies.{number_data}
use Rattle.reg_lookup.proofs.ListTokens.{listed-all}
use Rattle.reg_lookup.proofs.bodies.versions_body.Goals as goal

pub returns : goal.returns
returns c =
    IfOk-weaker c.ended.result _ _ (λ _ same.
    same
    ∙ listed-all (λ e. number_data e.version) (λ x. x.now) c.args.entries.now _ _ _ (omega arith) c.loop-entry.invariant.1 c.in_ok-end_array.ensures.ok) c.ended.ensures
