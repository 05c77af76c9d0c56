use Rattle.std.proofs.Common.{◌∙◌}
use Rattle.reg_messages.proofs.Places.{same-request}
use Rattle.reg_messages.proofs.reading.request_in.Goals as goal

pub returns : goal.returns
returns c = λ h at.
    same-request h c.args.body _ _ _
    (c.in_ok-method_in.ensures ∙ c.of.ensures ∙ at.method)
    (c.in_ok-target_in.ensures ∙ c.of-2.ensures ∙ at.path)
    (c.in_ok-copied.ensures ∙ c.fields_in.ensures h at)
