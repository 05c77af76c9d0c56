use Rattle.std.proofs.Common.{◌∙◌, rules}
use Rattle.std.proofs.lemmas.Result.{IfOk-weaker}
use Rattle.json.specs.Print.{escape_byte}
use Rattle.reg_lookup.proofs.bodies.level_body.Goals as goal

pub returns : goal.returns
unfolding escape_byte
returns c = IfOk-weaker c.of_string.result _ _ (λ _ same. same ∙ search rules) c.of_string.ensures
